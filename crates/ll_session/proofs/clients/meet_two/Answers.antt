use Rattle.ll_session.proofs.Meetings.{have_met}
use Rattle.ll_session.proofs.clients.meet_two.Goals as goal

pub returns : goal.returns
returns g c =
    have_met (λ it. it.rider) c.args.clients.now c.split_at_mut-front.result.0.now c.split_at_mut-front.result.1.now
    c.args.low c.args.high c.index-front-low.result c.index-back-0.result c.split_at_mut-front.ensures.value
    c.split_at_mut-front.ensures.front_len c.requires.order c.requires.within c.meet.new.one c.meet.new.other
    c.meet.ensures.one c.meet.ensures.other
