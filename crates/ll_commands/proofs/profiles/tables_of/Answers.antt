use Rattle.std.proofs.Common.{◌≡◌, ◌+◌, ◌++◌, ◌∷◌, [], ℕ, List, add-one, map, take, drop, drop-cons, get_or, ap, sym}
use Rattle.std.proofs.Common.{subst, ◌∙◌, string_bytes}
use Rattle.std.specs.Borrow.{Bor}
use Rattle.std.proofs.lemmas.List.{map-append, take-append-drop, take_all, take_more}
use Rattle.ll_program.specs.Rights.{rights_in}
use Rattle.ll_commands.specs.Profiles.{AreTables, StopsAt}
use Rattle.ll_commands.proofs.Tables.{adds, stops}
use Rattle.ll_commands.proofs.profiles.tables_of.Goals as goal

none : Bor (List ℕ)
none = record { ref_ptr = (0, 0); now = [] }

abbrev names : List (Bor (List ℕ)) → List (List ℕ)
names = map (λ p. p.now)

pub loop-profile-preserved : goal.loop-profile-preserved
unfolding none
loop-profile-preserved g c =
    let order = rights_in c.args.options.now in
    let policy = c.args.read.now.text.now in
    let profiles = c.args.profiles.now in
    let i = c.loop-profile.profile-index in
    let profile = get_or profiles i none in
    let text = string_bytes c.loop-profile.text in
    let last : names (take (i + 1) profiles) ≡ names (take i profiles) ++ profile.now ∷ [] =
    ap names (take_more profiles i none c.loop-profile-test.true)
    ∙ map-append (λ (p : Bor (List ℕ)). p.now) (take i profiles) (profile ∷ []) in
    record {
      so_far = subst (λ ps. AreTables order policy ps (string_bytes c.push_table.new.text)) (sym last)
          (adds order policy (names (take i profiles)) (profile.now ∷ []) text (string_bytes c.push_table.new.text)
          c.loop-profile.invariant.so_far c.in-Ok.ensures.table);
    }

pub returns-in-Err-clause-failure : goal.returns-in-Err-clause-failure
unfolding none
returns-in-Err-clause-failure g c =
    let order = rights_in c.args.options.now in
    let policy = c.args.read.now.text.now in
    let profiles = c.args.profiles.now in
    let i = c.loop-profile.profile-index in
    let profile = get_or profiles i none in
    let rest = names (drop (i + 1) profiles) in
    let split : drop i profiles ≡ profile ∷ drop (i + 1) profiles =
    drop-cons profiles i none c.loop-profile-test.true ∙ ap (λ k. profile ∷ drop k profiles) (sym (add-one i)) in
    let all : names (take i profiles) ++ profile.now ∷ rest ≡ names profiles =
    ap (λ (l : List (Bor (List ℕ))). names (take i profiles) ++ names l) (sym split)
    ∙ sym (map-append (λ (p : Bor (List ℕ)). p.now) (take i profiles) (drop i profiles))
    ∙ ap names (take-append-drop i profiles) in
    subst (λ ps. StopsAt order policy ps c.in-Err.failure) all
    (stops order policy (names (take i profiles)) rest profile.now (string_bytes c.loop-profile.text)
    c.in-Err.failure c.loop-profile.invariant.so_far c.in-Err.ensures.failure)

pub returns-clause-tables : goal.returns-clause-tables
returns-clause-tables g c =
    subst (λ (l : List (Bor (List ℕ))). AreTables (rights_in c.args.options.now) c.args.read.now.text.now (names l)
    (string_bytes c.loop-profile.text))
    (take_all c.loop-profile.profile-index c.args.profiles.now c.loop-profile-test.false)
    c.loop-profile.invariant.so_far
