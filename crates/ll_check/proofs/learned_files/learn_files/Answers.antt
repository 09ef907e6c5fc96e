use Rattle.std.proofs.Common.{List, ℕ, map, subst, sym}
use Rattle.ll_program.specs.Options.{learn_in}
use Rattle.ll_check.specs.Checks.{tests_of}
use Rattle.ll_check.specs.Lessons.{IsProfile}
use Rattle.ll_check.proofs.Taught.{are_lessons, cut_short, hindered, named_own, not_taught, untested, written}
use Rattle.ll_check.proofs.learned_files.learn_files.Goals as goal

pub returns-then-have_own : goal.returns-then-have_own
returns-then-have_own g c =
    named_own (learn_in c.args.input.now.options.now) c.args.input.now.policy.now (g.W.Write.contents c.args.out.now)
    c.args.input.now.files.now c.in-Ok.read.items c.as_slice-files.result.now c.have_own.result
    c.in-Ok.ensures.read c.as_slice-files.ensures.value c.have_own.ensures c.if-have_own.true

pub returns-in-Err-text_of : goal.returns-in-Err-text_of
returns-in-Err-text_of g c =
    let texts = c.args.input.now.files.now in
    let read = c.in-Ok.read.items in
    let files = c.as_slice-files.result.now in
    let lessons = are_lessons texts read files c.have_own.result c.in-Ok.ensures.read
    c.as_slice-files.ensures.value c.have_own.ensures c.if-have_own.false in
    not_taught (learn_in c.args.input.now.options.now) c.args.input.now.policy.now
    (g.W.Write.contents c.args.out.now) texts read files lessons c.as_slice-files.ensures.value
    c.in-Err-text_of.failure c.in-Err-text_of.ensures.failure

pub returns-in-Ok-write_whole : goal.returns-in-Ok-write_whole
returns-in-Ok-write_whole g c =
    let order = learn_in c.args.input.now.options.now in
    let policy = c.args.input.now.policy.now in
    let texts = c.args.input.now.files.now in
    let read = c.in-Ok.read.items in
    let files = c.as_slice-files.result.now in
    let lessons = are_lessons texts read files c.have_own.result c.in-Ok.ensures.read
    c.as_slice-files.ensures.value c.have_own.ensures c.if-have_own.false in
    let is = rw c.in-Ok-Some.field-0-is at c.in-Ok-Some.ensures.profile in
    written order policy (g.W.Write.contents c.args.out.now) texts read files lessons c.as_slice-files.ensures.value
    c.as_str.result.now (g.W.Write.contents c.write_whole.new.writer)
    (subst (λ (x : List ℕ). IsProfile order policy (map tests_of files) x) (sym c.as_str.ensures.value) is)
    c.in-Ok-write_whole.ensures.ok

pub returns : goal.returns
returns g c =
    let order = learn_in c.args.input.now.options.now in
    let policy = c.args.input.now.policy.now in
    let texts = c.args.input.now.files.now in
    let read = c.in-Ok.read.items in
    let files = c.as_slice-files.result.now in
    let lessons = are_lessons texts read files c.have_own.result c.in-Ok.ensures.read
    c.as_slice-files.ensures.value c.have_own.ensures c.if-have_own.false in
    let is = rw c.in-Ok-Some.field-0-is at c.in-Ok-Some.ensures.profile in
    cut_short order policy (g.W.Write.contents c.args.out.now) texts read files lessons
    c.as_slice-files.ensures.value c.as_str.result.now (g.W.Write.contents c.write_whole.new.writer)
    (subst (λ (x : List ℕ). IsProfile order policy (map tests_of files) x) (sym c.as_str.ensures.value) is)
    c.in-Err-write_whole.ensures.err

pub returns-then-not-have_tests : goal.returns-then-not-have_tests
returns-then-not-have_tests g c =
    let texts = c.args.input.now.files.now in
    let read = c.in-Ok.read.items in
    let files = c.as_slice-files.result.now in
    let lessons = are_lessons texts read files c.have_own.result c.in-Ok.ensures.read
    c.as_slice-files.ensures.value c.have_own.ensures c.if-have_own.false in
    untested (learn_in c.args.input.now.options.now) c.args.input.now.policy.now (g.W.Write.contents c.args.out.now)
    texts read files lessons c.as_slice-files.ensures.value c.have_tests.result c.have_tests.ensures
    c.if-not-have_tests.true

pub returns-in-Ok-None : goal.returns-in-Ok-None
returns-in-Ok-None g c =
    let texts = c.args.input.now.files.now in
    let read = c.in-Ok.read.items in
    let files = c.as_slice-files.result.now in
    let lessons = are_lessons texts read files c.have_own.result c.in-Ok.ensures.read
    c.as_slice-files.ensures.value c.have_own.ensures c.if-have_own.false in
    let is = rw c.in-Ok-None.field-0-is at c.in-Ok-None.ensures.hindered in
    hindered (learn_in c.args.input.now.options.now) c.args.input.now.policy.now (g.W.Write.contents c.args.out.now)
    texts read files lessons c.as_slice-files.ensures.value is
