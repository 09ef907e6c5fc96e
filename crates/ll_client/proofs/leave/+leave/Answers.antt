use Rattle.std.proofs.Common.{◌∙◌, arith, rules}
use Rattle.ll_client.proofs.Lendings.{last_out, lent_less, lent_more, room_more}
use Rattle.ll_client.proofs.leave.+leave.Goals as goal

pub leave_by-leave_among-left-requires : goal.leave_by-leave_among-left-requires
leave_by-leave_among-left-requires g t c κs within =
    let taken = c.take_slot.ensures in
    let more = c.lend.ensures in
    let asked = c.requires in (
      search rules,
      (
        within,
        (
          omega arith,
          (
            asked.few,
            (
              asked.sound,
              (
                asked.within,
                (
                  asked.wants,
                  (
                    lent_more _ _ _ _ _ _ _ _ _ _ asked.lent taken.gone taken.all taken.account more.numbers more.held,
                    room_more _ _ _ _ _ more.numbers asked.room,
                  ),
                ),
              ),
            ),
          ),
        ),
      ),
    )

pub leave_by-put_slot-requires-clause-free : goal.leave_by-put_slot-requires-clause-free
leave_by-put_slot-requires-clause-free g t c =
    let told = c.leave_among-left.ensures in
    last_out _ _ _ _ _ _ _ told.lent (told.numbers ∙ c.lend.ensures.numbers)

pub leave_by-returns-clause-lent : goal.leave_by-returns-clause-lent
leave_by-returns-clause-lent g t c =
    let told = c.leave_among-left.ensures in
    lent_less _ _ _ _ _ _ _ _ _ _ _ _ told.lent (told.numbers ∙ c.lend.ensures.numbers) c.give_back.ensures.numbers.1
    c.give_back.ensures.held c.put_slot.ensures.others c.put_slot.ensures.all
