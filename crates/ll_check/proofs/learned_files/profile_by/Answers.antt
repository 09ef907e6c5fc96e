use Rattle.std.proofs.Common.{◌∙◌, List, ap, map, refl}
use Rattle.std.specs.Borrow.{Bor}
use Rattle.ll_seq.specs.declared.reply.Entry.{Entry}
use Rattle.ll_seq.specs.History.{Log}
use Rattle.ll_learn.specs.declared.learned.Aim.{Aim}
use Rattle.ll_program.specs.Options.{learn_in}
use Rattle.ll_check.specs.Lessons.{Course, picked}
use Rattle.ll_check.proofs.Taught.{nothing_so, taught_so, untaught_so}
use Rattle.ll_check.proofs.learned_files.profile_by.Goals as goal

pub returns-clause-taught : goal.returns-clause-taught
returns-clause-taught g c =
    let order = learn_in c.args.trees.now.options.now in
    let policy = c.args.trees.now.policy.now in
    let lessons = map picked c.args.lessons.now in
    let aim : Aim = record {
      client = c.learner.result;
      handled = c.known.result;
      never = c.args.request.now.never;
      beneath = c.as_slice-2.result;
    } in
    let course : Course order policy lessons = record {
      blank = c.args.blank.now;
      is = c.requires.blank;
      histories = map (λ (h : Log). h.entries) c.args.histories.now;
      taught = c.requires.taught;
      aim = aim;
      aims = record {
        client = c.learner.ensures;
        handled = c.known.ensures;
        never = c.requires.never;
        beneath = c.as_slice-2.ensures.value ∙ c.requires.beneath;
      };
    } in
    let same = ap (map (λ (es : Bor (List Entry)). es.now)) c.as_slice.ensures.value
    ∙ c.in_ok-entries.ensures.entries in
    taught_so order policy lessons course c.header_of-header.result
    (map (λ (es : Bor (List Entry)). es.now) c.as_slice.result.now) aim c.header_of-header.ensures.header same refl
    c.learned_from.result c.learned_from.ensures.learned

pub returns-clause-failure : goal.returns-clause-failure
returns-clause-failure g c =
    let order = learn_in c.args.trees.now.options.now in
    let policy = c.args.trees.now.policy.now in
    let lessons = map picked c.args.lessons.now in
    let aim : Aim = record {
      client = c.learner.result;
      handled = c.known.result;
      never = c.args.request.now.never;
      beneath = c.as_slice-2.result;
    } in
    let course : Course order policy lessons = record {
      blank = c.args.blank.now;
      is = c.requires.blank;
      histories = map (λ (h : Log). h.entries) c.args.histories.now;
      taught = c.requires.taught;
      aim = aim;
      aims = record {
        client = c.learner.ensures;
        handled = c.known.ensures;
        never = c.requires.never;
        beneath = c.as_slice-2.ensures.value ∙ c.requires.beneath;
      };
    } in
    let same = ap (map (λ (es : Bor (List Entry)). es.now)) c.as_slice.ensures.value
    ∙ c.in_ok-entries.ensures.entries in
    untaught_so order policy lessons course c.header_of-header.result
    (map (λ (es : Bor (List Entry)). es.now) c.as_slice.result.now) aim c.header_of-header.ensures.header same refl
    c.learned_from.result c.learned_from.ensures.failure

pub returns-clause-nothing : goal.returns-clause-nothing
returns-clause-nothing g c =
    let order = learn_in c.args.trees.now.options.now in
    let policy = c.args.trees.now.policy.now in
    let lessons = map picked c.args.lessons.now in
    let aim : Aim = record {
      client = c.learner.result;
      handled = c.known.result;
      never = c.args.request.now.never;
      beneath = c.as_slice-2.result;
    } in
    let course : Course order policy lessons = record {
      blank = c.args.blank.now;
      is = c.requires.blank;
      histories = map (λ (h : Log). h.entries) c.args.histories.now;
      taught = c.requires.taught;
      aim = aim;
      aims = record {
        client = c.learner.ensures;
        handled = c.known.ensures;
        never = c.requires.never;
        beneath = c.as_slice-2.ensures.value ∙ c.requires.beneath;
      };
    } in
    let same = ap (map (λ (es : Bor (List Entry)). es.now)) c.as_slice.ensures.value
    ∙ c.in_ok-entries.ensures.entries in
    nothing_so order policy lessons course c.header_of-header.result
    (map (λ (es : Bor (List Entry)). es.now) c.as_slice.result.now) aim c.header_of-header.ensures.header same refl
    c.learned_from.result c.learned_from.ensures.nothing
