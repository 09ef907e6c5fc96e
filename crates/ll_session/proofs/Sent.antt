-- What is left of a stream may go to another thread.
use denote.RattleType.{RattleType}
use denote.Param.Send.{IsSend, sendable}
use Rattle.std.proofs.Crossing.{crosses}
use Rattle.ll_client.proofs.client.Client.TheSendSync.{the_send as client_send}
use Rattle.ll_client.specs.contracts.client.Client as Client
use Rattle.ll_client.specs.declared.shape.Shape as Shape
use Rattle.ll_session.specs.contracts.stream.Outcome as Outcome
use Rattle.ll_session.specs.contracts.stream.Served as Served

outcome_sent : IsSend Outcome.the_row
outcome_sent = search (sendable, crosses) depth 60

module _ (N R W : RattleType) (n : IsSend N) (shape : Shape.Ghosts N.Denot) (naming : _) where
  client_sent : IsSend (Client.the_row N shape naming)
  client_sent = search (client_send, sendable)

  pub served_sent : IsSend (Served.the_row N R W shape naming)
  served_sent = search (sendable, crosses, client_sent, outcome_sent) depth 40
