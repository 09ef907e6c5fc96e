-- A learned profile's calls are accepted where its histories are cut, and give the client a layer that it spells.
use Rattle.std.specs.Prelude.{◌≡◌, ◌⊎◌, ◌==◌, ◌<◌, ◌≤◌, ◌+◌, ◌^◌, ◌&&◌, ◌||◌, ℕ, zero, suc, Bool, true, false, cond}
use Rattle.std.specs.Prelude.{List, [], ◌∷◌, ◌++◌, Option, None, Some, All, IsTrue, bit_or, is_none, is_some, length}
use Rattle.std.specs.Prelude.{map, not, option_and_then, refl, slice_get, slice_index_or, unwrap_or}
use Rattle.std.specs.List.{list_any}
use Rattle.std.specs.Option.{option_map_or}
use Rattle.std.specs.Ordering.{nat_cmp}
use Rattle.std.specs.Cmp.{nat_cmp_total}
use Rattle.std.specs.FinMap.{nat_cmp-IsAntisymmetric}
use Rattle.std.proofs.Common.{ap, arith, eq-eqb, inl, inr, ne_eqb, subst, sym, ◌∙◌}
use Rattle.std.proofs.lemmas.Bool.{lt-leb}
use Rattle.ll_rights.specs.declared.errno.Errno.TheVariants.{E2BIG, ENOENT}
use Rattle.ll_rights.specs.declared.kind.Kind.{Kind}
use Rattle.ll_rights.specs.declared.kind.Kind.TheVariants.{Dir, Reg}
use Rattle.ll_rights.specs.declared.limits.TheConstants.{RULESET_INODES}
use Rattle.ll_rights.specs.Access.{holds, known_set}
use Rattle.ll_rights.specs.Errno.{refuse}
use Rattle.ll_rights.specs.Kind.{relevant}
use Rattle.ll_rights.specs.Map.{Map, empty, entries, get, has, insert, len}
use Rattle.ll_rights.specs.MapCodes.{same_list_map}
use Rattle.ll_rights.proofs.Maps.{get-empty, get-insert_other, get-insert_same, insert_cases, same_map}
use Rattle.ll_rights.proofs.Sizes.{len-insert}
use Rattle.ll_path.specs.Path.{Path, parent}
use Rattle.ll_rules.specs.Layer.{Layer, has_rule}
use Rattle.ll_rules.specs.Rules.{create_refusals, new_ruleset, rule_refusals, with_rule}
use Rattle.ll_decide.proofs.Bits.{holds-and, holds-or, holds_all}
use Rattle.ll_decide.proofs.OneByOne.{holds_none}
use Rattle.ll_seq.specs.declared.call.Call.{Call}
use Rattle.ll_seq.specs.declared.call.Call.TheVariants.{Confine, Ruleset}
use Rattle.ll_seq.specs.declared.client.ClientRecord.{ClientRecord}
use Rattle.ll_seq.specs.declared.reply.Reply.{Reply}
use Rattle.ll_seq.specs.declared.reply.Reply.TheVariants.{Created, Done}
use Rattle.ll_seq.specs.Asked.{call_denials}
use Rattle.ll_seq.specs.Call.{first_path, second_path}
use Rattle.ll_seq.specs.CallParts.{is_relevant}
use Rattle.ll_seq.specs.Effects.{effect, with_client}
use Rattle.ll_seq.specs.History.{IsLegal, MayStand, fresh_of, is_connect, state_after}
use Rattle.ll_seq.specs.Passed.{after_policy, before_policy}
use Rattle.ll_seq.specs.Stages.{in_the_way, kind_of_child, no_directory}
use Rattle.ll_seq.specs.State.{State, child, kind_of, new_client, root}
use Rattle.ll_seq.specs.Step.{client_of, step}
use Rattle.ll_seq.specs.Tree.{end_from, inode_of, kind_at, named}
use Rattle.ll_seq.proofs.StepParts.{comes_to, none_refused}
use Rattle.ll_laws.proofs.Trees.{IsTree}
use Rattle.ll_plain.proofs.Records.{no_denials}
use Rattle.ll_why.proofs.AcceptedRules.{holds_taken}
use Rattle.ll_learn.specs.declared.profile.LearnedProfile.{LearnedProfile}
use Rattle.ll_learn.specs.declared.profile.LearnedRule.{LearnedRule}
use Rattle.ll_learn.specs.Enforcement.{FitsRuleset, IsEnforced, acceptance, accepted_calls, with_layer}
use Rattle.ll_learn.specs.Lesson.{AreNamed, IsOfProfile, gives}
use Rattle.ll_learn.specs.Profile.{call_of, calls_of}
use Rattle.ll_learn.proofs.EarlierReach.{named_kind}
use Rattle.ll_learn.proofs.Twins.{with_all}

-- ---- A layer with more rules

or_none : (b : Bool) → (b || false) ≡ b
or_none true = refl
or_none false = refl

or_further : (a b c : Bool) → ((a || b) || c) ≡ (a || (b || c))
or_further true b c = refl
or_further false b c = refl

abbrev with_rules : Layer → List LearnedRule → Layer
with_rules layer [] = layer
with_rules layer (rule ∷ rules) = with_rules (with_rule layer rule.inode rule.rights.0) rules

has_one : (layer : Layer) (at rights inode right : ℕ) → has_rule (with_rule layer at rights) right inode
    ≡ (has_rule layer right inode || ((at == inode) && holds rights right))
has_one layer at rights inode right =
    let old : ℕ = unwrap_or (get layer.rules at) 0 in
    elim (insert_cases nat_cmp_total nat_cmp-IsAntisymmetric layer.rules at (bit_or old rights) inode) [
      | inl a ↦ ap (λ (o : Option ℕ). holds (unwrap_or o 0) right) a.1 ∙ holds-or old rights right
          ∙ (λ i. has_rule layer right (sym a.0 i) || (sym (eq-eqb at inode (sym a.0)) i && holds rights right))
      | inr a ↦ ap (λ (o : Option ℕ). holds (unwrap_or o 0) right) a.1 ∙ sym (or_none (has_rule layer right inode))
          ∙ ap (λ b. has_rule layer right inode || (b && holds rights right))
          (sym (ne_eqb at inode (λ e. a.0 (sym e))))
    ]

has_each : (layer : Layer) (rules : List LearnedRule) (inode right : ℕ) → has_rule (with_rules layer rules) right inode
    ≡ (has_rule layer right inode || list_any (gives inode right) rules)
has_each layer [] inode right = sym (or_none (has_rule layer right inode))
has_each layer (rule ∷ rules) inode right =
    has_each (with_rule layer rule.inode rule.rights.0) rules inode right
    ∙ ap (λ b. b || list_any (gives inode right) rules) (has_one layer rule.inode rule.rights.0 inode right)
    ∙ or_further (has_rule layer right inode) (gives inode right rule) (list_any (gives inode right) rules)

handles : (layer : Layer) (rules : List LearnedRule) → (with_rules layer rules).handled ≡ layer.handled
handles layer [] = refl
handles layer (rule ∷ rules) = handles (with_rule layer rule.inode rule.rights.0) rules

has_none : (handled right inode : ℕ) → has_rule (new_ruleset handled) right inode ≡ false
has_none handled right inode =
    ap (λ (o : Option ℕ). holds (unwrap_or o 0) right) (get-empty ℕ nat_cmp inode) ∙ holds_none right

-- the profile spells the layer with its rules
spells : (profile : LearnedProfile)
    → IsOfProfile profile (with_rules (new_ruleset profile.handled.0) profile.rules.items)
spells profile = record {
  handled = handles (new_ruleset profile.handled.0) profile.rules.items;
  rules = λ inode right known. has_each (new_ruleset profile.handled.0) profile.rules.items inode right
      ∙ ap (λ b. b || list_any (gives inode right) profile.rules.items) (has_none profile.handled.0 right inode);
}

none_yet : (handled : ℕ) → len (new_ruleset handled).rules ≡ 0
unfolding empty entries
none_yet handled = refl

one_more : (layer : Layer) (at rights : ℕ) → len (with_rule layer at rights).rules ≤ len layer.rules + 1
one_more layer at rights =
    by (has layer.rules at) (len-insert layer.rules at (bit_or (unwrap_or (get layer.rules at) 0) rights))
  where
    by : (b : Bool) → len (with_rule layer at rights).rules ≡ cond b (len layer.rules) (len layer.rules + 1)
        → len (with_rule layer at rights).rules ≤ len layer.rules + 1
    by true e = omega arith
    by false e = omega arith

-- ---- A rule that is taken

-- a rule of such a ruleset is taken: its path leads to its node, and its rights may be given there
record IsTaken (s : State) (handled : ℕ) (rule : LearnedRule) : Type 0 where
  named : named s rule.path ≡ Some rule.inode
  free : (layer : Layer) → layer.handled ≡ handled → rule_refusals layer (kind_at s rule.path) rule.rights.0 ≡ []

any_there : {A : Type 0} (p : A → Bool) (xs : List A) (k : ℕ) (d : A) → k < length xs
    → p (slice_index_or xs k d) ≡ true → list_any p xs ≡ true
any_there p [] k d lt is = absurd (omega arith)
any_there p (x ∷ xs) zero d lt is = ap (λ b. b || list_any p xs) is
any_there p (x ∷ xs) (suc k) d lt is = either (p x) (list_any p xs) (any_there p xs k d (omega arith) is)
  where
    either : (a b : Bool) → b ≡ true → (a || b) ≡ true
    either true b e = refl
    either false b e = e

module _ (s : State) (tree : IsTree s) where
  -- nothing is in the way to what a path names
  clear : (path : Path) (i x : ℕ) → end_from s path i ≡ Some x → in_the_way s (parent path) i ≡ []
  clear [] i x e = refl
  clear (n ∷ []) i x e = refl
  clear (n ∷ m ∷ path) i x e = by (child s i n) refl e (λ j f. clear (m ∷ path) j x f)
    where
      next : (j : ℕ) (o : Option ℕ) → child s j m ≡ o → option_and_then (end_from s path) o ≡ Some x
          → (y : ℕ) × (child s j m ≡ Some y)
      next j None is f = absurd (cc f)
      next j (Some y) is f = (y, is)

      by : (o : Option ℕ) → child s i n ≡ o → option_and_then (end_from s (m ∷ path)) o ≡ Some x
          → ((j : ℕ) → end_from s (m ∷ path) j ≡ Some x → in_the_way s (parent (m ∷ path)) j ≡ [])
          → no_directory (kind_of_child s o) ++ option_map_or (in_the_way s (parent (m ∷ path))) o [] ≡ []
      by None is f rest = absurd (cc f)
      by (Some j) is f rest =
          let below = next j (child s j m) refl f in
          let kind = tree.known i n j is in
          let dir : kind_of s j ≡ Some Dir = kind.1 ∙ ap Some (tree.dirs j m below.0 below.1 kind.0 kind.1) in
          ap (λ (o : Option Kind). no_directory o ++ in_the_way s (parent (m ∷ path)) j) dir ∙ rest j f

  module _ (handled : ℕ) (rules : List LearnedRule) (are : AreNamed s rules)
      (may : (inode right : ℕ) → right < 15 → list_any (gives inode right) rules ≡ true
      → (holds handled right ≡ true) × IsTrue (is_relevant (kind_of s inode) right)) where
    taken : All (IsTaken s handled) rules
    taken k d lt =
        let rule : LearnedRule = slice_index_or rules k d in
        let is = are k d lt in
        let some : 1 ≤ rule.rights.0 = is.0 in
        let low : rule.rights.0 < 2 ^ 15 = is.1 in
        let leads : named s rule.path ≡ Some rule.inode = is.3 in
        let kind = named_kind s tree rule.path rule.inode leads in
        let each : (right : ℕ) → right < 15 → holds rule.rights.0 right ≡ true
        → (holds handled right ≡ true) × (holds (relevant kind.0) right ≡ true) = λ right known held.
        let given = may rule.inode right known (any_there (gives rule.inode right) rules k d lt
        (λ i. eq-eqb rule.inode rule.inode refl i && held i)) in
        (given.0, sym (ap (λ (o : Option Kind). is_relevant o right) kind.1) ∙ given.1) in
        record {
          named = leads;
          free = λ layer same.
              ap (λ (z : Kind). rule_refusals layer z rule.rights.0)
              (ap (λ (o : Option ℕ). unwrap_or (kind_of s (unwrap_or o 0)) Reg) leads
              ∙ ap (λ (o : Option Kind). unwrap_or o Reg) kind.1)
              ∙ (holds_taken 3 layer (Some kind.0) rule.rights.0 low
              (λ right known held. holds-and (known_set 3) (relevant kind.0) right
              ∙ (λ i. holds_all right known i && (each right known held).1 i))
              (λ right known held. ap (λ n. holds n right) same ∙ (each right known held).0)).taken
              (λ none. absurd (omega arith));
        }

-- ---- One call

-- nothing refuses or denies it
module _ (s : State) (q : ℕ) (call : Call) (c : ClientRecord) (there : get s.clients q ≡ Some c) where
  who : client_of s q ≡ c
  who = ap (λ (o : Option ClientRecord). unwrap_or o new_client) there

  does : before_policy s c call ≡ [] → slice_get (call_denials s c call) 0 ≡ None → after_policy s c call ≡ []
      → step s q call 0 ≡ effect s q c (first_path call) (second_path call) 0 call
  does free allowed fits =
      comes_to s q call 0 (none_refused s q call (ap (λ d. before_policy s d call) who ∙ free)
      (ap (λ d. slice_get (call_denials s d call) 0) who ∙ allowed) (ap (λ d. after_policy s d call) who ∙ fits))
      ∙ ap (λ d. effect s q d (first_path call) (second_path call) 0 call) who

-- a call with one of these replies may stand where it gets it
stands : (s : State) (q : ℕ) (call : Call) (c : ClientRecord) → get s.clients q ≡ Some c → is_connect call ≡ false
    → (reply : Reply) → (reply ≡ Created 0) ⊎ (reply ≡ Done) → (step s q call 0).0 ≡ reply
    → MayStand s (record { client = q; call = call; reply = reply })
stands s q call c there mine reply is answer = record {
  caller = ap is_some there ∙ sym (ap not mine);
  connected = λ connects. absurd (cc (sym mine ∙ connects));
  spawned = λ number e. elim is [ inl a ↦ absurd (cc (sym a ∙ e)) | inr a ↦ absurd (cc (sym a ∙ e)) ];
  answered = elim is [
    | inl a ↦ ap (λ r. (step s q call (fresh_of r)).0) a ∙ answer
    | inr a ↦ ap (λ r. (step s q call (fresh_of r)).0) a ∙ answer
  ];
}

-- ---- All calls of a profile

-- a client's record that is put in place of another
insert_over : (m : Map nat_cmp ClientRecord) (q : ℕ) (c d : ClientRecord)
    → insert (insert m q c) q d ≡ insert m q d
insert_over m q c d = same_list_map _ _ (same_map nat_cmp_total nat_cmp-IsAntisymmetric _ _ (λ k.
    elim (insert_cases nat_cmp_total nat_cmp-IsAntisymmetric (insert m q c) q d k) [
      | inl a ↦ a.1
          ∙ sym (ap (get (insert m q d)) a.0 ∙ get-insert_same nat_cmp_total nat_cmp-IsAntisymmetric m q d)
      | inr a ↦ a.1 ∙ get-insert_other nat_cmp_total nat_cmp-IsAntisymmetric m q c k a.0
          ∙ sym (get-insert_other nat_cmp_total nat_cmp-IsAntisymmetric m q d k a.0)
    ]))

-- a client that has this ruleset alone, and these layers
abbrev holder : Layer → List Layer → ClientRecord
holder layer domain = record { domain = domain; rulesets = layer ∷ []; descriptors = empty }

module _ (s : State) (tree : IsTree s) (q handled : ℕ) where
  -- the calls are accepted, and the client is this one then
  record Goes (m : Map nat_cmp ClientRecord) (calls : List Call) (c : ClientRecord) : Type 0 where
    legal : IsLegal (with_all s m) (accepted_calls q calls)
    state : state_after (with_all s m) (accepted_calls q calls) ≡ with_all s (insert m q c)

  goes_on : (m : Map nat_cmp ClientRecord) (call : Call) (calls : List Call) (c d e : ClientRecord)
      → get m q ≡ Some c → is_connect call ≡ false → (acceptance call ≡ Created 0) ⊎ (acceptance call ≡ Done)
      → step (with_all s m) q call 0 ≡ (acceptance call, with_all s (insert m q d))
      → Goes (insert m q d) calls e → Goes m (call ∷ calls) e
  goes_on m call calls c d e there mine is steps rest = record {
    legal = (
      stands (with_all s m) q call c there mine (acceptance call) is (ap (λ (o : Reply × State). o.0) steps),
      subst (λ (t : State). IsLegal t (accepted_calls q calls)) (sym next) rest.legal,
    );
    state = ap (λ (t : State). state_after t (accepted_calls q calls)) next ∙ rest.state
        ∙ ap (with_all s) (insert_over m q d e);
  }
    where
      same : (reply : Reply) → (reply ≡ Created 0) ⊎ (reply ≡ Done) → fresh_of reply ≡ 0
      same reply (inl a) = ap fresh_of a
      same reply (inr a) = ap fresh_of a

      next : (step (with_all s m) q call (fresh_of (acceptance call))).1 ≡ with_all s (insert m q d)
      next = ap (λ k. (step (with_all s m) q call k).1) (same (acceptance call) is)
          ∙ ap (λ (o : Reply × State). o.1) steps

  -- the layer is put on
  confines : (m : Map nat_cmp ClientRecord) (layer : Layer) → get m q ≡ Some (holder layer [])
      → Goes m (Confine 0 ∷ []) (holder layer (layer ∷ []))
  confines m layer there =
      let new : ClientRecord = holder layer (layer ∷ []) in
      goes_on m (Confine 0) [] (holder layer []) new new there refl (inr refl)
      (does (with_all s m) q (Confine 0) (holder layer []) there refl (no_denials (with_all s m) []) refl)
      (record { legal = tt; state = sym (ap (with_all s) (insert_over m q new new)) })

  allows : (m : Map nat_cmp ClientRecord) (layer : Layer) (rule : LearnedRule) → layer.handled ≡ handled
      → IsTaken s handled rule → len layer.rules < RULESET_INODES → get m q ≡ Some (holder layer [])
      → step (with_all s m) q (call_of rule) 0
      ≡ (Done, with_all s (insert m q (holder (with_rule layer rule.inode rule.rights.0) [])))
  allows m layer rule same is few there =
      does (with_all s m) q (call_of rule) (holder layer []) there free (no_denials (with_all s m) []) fits
      ∙ ap (λ (o : Option ℕ). (
        Done,
        with_all s (insert m q (holder
            (with_rule layer (unwrap_or o 0) rule.rights.0) [])),
      )) is.named
    where
      free : before_policy (with_all s m) (holder layer []) (call_of rule) ≡ []
      free = λ i. (clear s tree rule.path root rule.inode is.named i ++ [])
          ++ refuse (is_none (is.named i)) ENOENT

      fits : after_policy (with_all s m) (holder layer []) (call_of rule) ≡ []
      fits = λ i. is.free layer same i ++ refuse
          (lt-leb RULESET_INODES (len layer.rules) few i && not (has layer.rules (inode_of s rule.path))) E2BIG

  each : (rules : List LearnedRule) (m : Map nat_cmp ClientRecord) (layer : Layer) → layer.handled ≡ handled
      → All (IsTaken s handled) rules → len layer.rules + length rules ≤ RULESET_INODES
      → get m q ≡ Some (holder layer [])
      → Goes m (map call_of rules ++ Confine 0 ∷ []) (holder (with_rules layer rules) (with_rules layer rules ∷ []))
  each [] m layer same are few there = confines m layer there
  each (rule ∷ rules) m layer same are few there =
      let more : Layer = with_rule layer rule.inode rule.rights.0 in
      let count = one_more layer rule.inode rule.rights.0 in
      let is : IsTaken s handled rule = are 0 rule (omega arith) in
      goes_on m (call_of rule) (map call_of rules ++ Confine 0 ∷ []) (holder layer []) (holder more [])
      (holder (with_rules more rules) (with_rules more rules ∷ [])) there refl (inr refl)
      (allows m layer rule same is (omega arith) there)
      (each rules (insert m q (holder more [])) more same (λ k d lt. are (suc k) d (omega arith)) (omega arith)
      (get-insert_same nat_cmp_total nat_cmp-IsAntisymmetric m q (holder more [])))

-- a fresh client gets the profile's layer
pub enforced : (s : State) → IsTree s → (q : ℕ) → get s.clients q ≡ Some new_client → (profile : LearnedProfile)
    → AreNamed s profile.rules.items
    → ((inode right : ℕ) → right < 15 → list_any (gives inode right) profile.rules.items ≡ true
    → (holds profile.handled.0 right ≡ true) × IsTrue (is_relevant (kind_of s inode) right))
    → FitsRuleset s profile → IsEnforced s q profile
enforced s tree q there profile are may fits =
    let handled = profile.handled.0 in
    let rules = profile.rules.items in
    let first : Layer = new_ruleset handled in
    let layer : Layer = with_rules first rules in
    let none = none_yet handled in
    let creates : step s q (Ruleset profile.handled) 0
    ≡ (Created 0, with_all s (insert s.clients q (holder first []))) =
    does s q (Ruleset profile.handled) new_client there refl (no_denials s []) (ap (λ es. es ++ []) fits.0) in
    let few = fits.1 in
    let goes = goes_on s tree q handled s.clients (Ruleset profile.handled) (map call_of rules ++ Confine 0 ∷ [])
    new_client (holder first []) (holder layer (layer ∷ [])) there refl (inl refl) creates
    (each s tree q handled rules (insert s.clients q (holder first [])) first refl (taken s tree handled rules are may)
    (omega arith) (get-insert_same nat_cmp_total nat_cmp-IsAntisymmetric s.clients q (holder first []))) in
    record {
      accepted = goes.legal;
      layer = layer;
      spelt = spells profile;
      state = goes.state
          ∙ sym (ap (λ (o : Option ClientRecord). with_client s q (with_layer (unwrap_or o new_client) layer)) there);
    }
