-- Demands without a bit that is no right's.
use Rattle.std.specs.Prelude.{List}
use Rattle.ll_decide.specs.Demands.{AreAsks, AreMoves}
use Rattle.ll_decide.specs.Verdict.{Ask, Move}
use Rattle.ll_decide.specs.declared.demands.Demands.{Demands}
use Rattle.ll_decide.specs.declared.demands.On.{On}
use Rattle.ll_seq.specs.Demanded.{AreDemands}
use Rattle.ll_seq.specs.State.{State}
use Rattle.ll_seq.specs.declared.call.Call.{Call}

pub are_known : (s : State) (call : Call) (d e : Demands) → ((asks : List (Ask On)) → AreAsks d asks → AreAsks e asks)
    → ((moves : List (Move On)) → AreMoves d moves → AreMoves e moves) → AreDemands s call d → AreDemands s call e
are_known s call d e asks moves are = record {
  asks = are.asks;
  moves = are.moves;
  are_asks = asks are.asks are.are_asks;
  are_moves = moves are.moves are.are_moves;
  all_asked = are.all_asked;
  all_moved = are.all_moved;
}
