-- What a call asks, by lists of what it is asked on.
use Rattle.std.specs.Prelude.{◌≡◌, ℕ, Bool, true, false, not, ◌&&◌, List, [], ◌∷◌, ◌++◌, map, Option, Some, None}
use Rattle.std.specs.Prelude.{is_some, option_map, unwrap_or, refl}
use Rattle.std.proofs.Common.{sym, subst, ◌∙◌}
use Rattle.ll_rights.specs.declared.kind.Kind.{Kind}
use Rattle.ll_rights.specs.Kind.{make_right, remove_right, relevant}
use Rattle.ll_rights.specs.Right as right
use Rattle.ll_rights.specs.Right.{refer, all_rights}
use Rattle.ll_path.specs.Path.{Path, parent}
use Rattle.ll_rules.specs.Layer.{Layer}
use Rattle.ll_decide.specs.declared.demands.Demands.{Demands}
use Rattle.ll_decide.specs.declared.demands.On.{On}
use Rattle.ll_decide.specs.declared.demands.On.TheVariants.{Itself, Parent, Entered}
use Rattle.ll_decide.specs.declared.demands.Way.TheVariants.{There, Back}
use Rattle.ll_decide.specs.declared.denial.Place.TheVariants.{At, Old, New}
use Rattle.ll_decide.proofs.Mapped.{verdict-map}
use Rattle.ll_decide.specs.Demands.{AreAsks, AreMoves, ask_on}
use Rattle.ll_decide.specs.Judge.{grants_along}
use Rattle.ll_decide.specs.Verdict.{Ask, Move, when, verdict}
use Rattle.ll_seq.specs.Asked.{grants, ask, opening_asked, parents_differ, leaves, enters, refers, goes}
use Rattle.ll_seq.specs.CallParts.{asked, moved}
use Rattle.ll_seq.specs.Call.{reads, writes, first_path, second_path}
use Rattle.ll_seq.specs.declared.call.Call.{Call}
use Rattle.ll_seq.specs.declared.call.Mode.{Mode}
use Rattle.ll_seq.specs.State.{State}
use Rattle.ll_seq.specs.Tree.{ancestors, named, kind_or_file, kind_at}
use Rattle.ll_seq.specs.Demanded.{AreDemands, path_on, ask_at, move_at, opening_on, refer_on, goes_on, moving_on}
use Rattle.ll_seq.specs.Demanded.{replacing_on, exchange_on}

-- the verdict over what is asked on is the verdict over the paths
pub verdict_same : (s : State) (first second : Path) (domain : List Layer) (asks : List (Ask On))
    (moves : List (Move On))
    → verdict (grants s) domain (map (ask_at first second) asks) (map (move_at first second) moves)
    ≡ verdict (grants_along (λ on. ancestors s (path_on first second on))) domain asks moves
verdict_same s first second = verdict-map (path_on first second) (grants s)

-- the demands of a call that is this one
pub demands : (s : State) (call same : Call) (d : Demands) (asks : List (Ask On)) (moves : List (Move On)) → call ≡ same
    → AreAsks d asks → AreMoves d moves
    → asked s same ≡ map (ask_at (first_path same) (second_path same)) asks
    → moved s same ≡ map (move_at (first_path same) (second_path same)) moves
    → AreDemands s call d
demands s call same d asks moves is are_asks are_moves all_asked all_moved =
    subst (λ (z : Call). AreDemands s z d) (sym is)
    (record {
      asks = asks;
      moves = moves;
      are_asks = are_asks;
      are_moves = are_moves;
      all_asked = all_asked;
      all_moved = all_moved;
    })

-- ---- The lists of the definitions

pub opening_same : (mode : Mode) (at new : Path) (exists : Bool)
    → opening_asked mode at exists ≡ map (ask_at at new) (opening_on mode exists)
opening_same mode at new exists = of (reads mode.access) (writes mode.access) mode.truncate exists
  where
    of : (r w t e : Bool) →
        when (not e) (ask (parent at) right.make_reg At) ++ when r (ask at right.read_file At)
        ++ when w (ask at right.write_file At) ++ when (t && e) (ask at right.truncate At)
        ≡ map (ask_at at new) (when (not e) (ask_on Parent right.make_reg ∷ [])
        ++ when r (ask_on Itself right.read_file ∷ []) ++ when w (ask_on Itself right.write_file ∷ [])
        ++ when (t && e) (ask_on Itself right.truncate ∷ []))
    of true true true true = refl
    of true true true false = refl
    of true true false true = refl
    of true true false false = refl
    of true false true true = refl
    of true false true false = refl
    of true false false true = refl
    of true false false false = refl
    of false true true true = refl
    of false true true false = refl
    of false true false true = refl
    of false true false false = refl
    of false false true true = refl
    of false false true false = refl
    of false false false true = refl
    of false false false false = refl

module _ (s : State) (at new : Path) where
  pub rename_same : (kind : Kind) (replaced : Option Kind) (differ : Bool) → kind ≡ kind_at s at
      → replaced ≡ option_map (kind_or_file s) (named s new)
      → differ ≡ parents_differ s at new
      → leaves s at Old ++ enters s at new New ++ when (is_some (named s new)) (leaves s new New) ++ refers s at new
      ≡ map (ask_at at new) (moving_on kind ++ replacing_on replaced ++ refer_on differ)
  rename_same kind replaced differ k r d =
      of (kind_at s at) (named s new) (parents_differ s at new)
      ∙ (λ i. map (ask_at at new) (moving_on (sym k i) ++ replacing_on (sym r i) ++ refer_on (sym d i)))
    where
      of : (k : Kind) (o : Option ℕ) (b : Bool) →
          ask (parent at) (remove_right k) Old ++ ask (parent new) (make_right k) New
          ++ when (is_some o) (ask (parent new) (remove_right (kind_or_file s (unwrap_or o 0))) New)
          ++ when b (ask (parent at) right.refer Old ++ ask (parent new) right.refer New)
          ≡ map (ask_at at new) (moving_on k ++ replacing_on (option_map (kind_or_file s) o) ++ refer_on b)
      of k None true = refl
      of k None false = refl
      of k (Some j) true = refl
      of k (Some j) false = refl

  pub noreplace_same : (kind : Kind) (differ : Bool) → kind ≡ kind_at s at → differ ≡ parents_differ s at new
      → leaves s at Old ++ enters s at new New ++ refers s at new
      ≡ map (ask_at at new) (moving_on kind ++ replacing_on None ++ refer_on differ)
  noreplace_same kind differ k d =
      of (kind_at s at) (parents_differ s at new)
      ∙ (λ i. map (ask_at at new) (moving_on (sym k i) ++ replacing_on None ++ refer_on (sym d i)))
    where
      of : (k : Kind) (b : Bool) →
          ask (parent at) (remove_right k) Old ++ ask (parent new) (make_right k) New
          ++ when b (ask (parent at) right.refer Old ++ ask (parent new) right.refer New)
          ≡ map (ask_at at new) (moving_on k ++ replacing_on None ++ refer_on b)
      of k true = refl
      of k false = refl

  pub exchange_same : (kind other : Kind) (differ : Bool) → kind ≡ kind_at s at → other ≡ kind_at s new
      → differ ≡ parents_differ s at new
      → leaves s at Old ++ enters s new at Old ++ enters s at new New ++ leaves s new New ++ refers s at new
      ≡ map (ask_at at new) (exchange_on kind other ++ refer_on differ)
  exchange_same kind other differ k o d =
      of (kind_at s at) (kind_at s new) (parents_differ s at new)
      ∙ (λ i. map (ask_at at new) (exchange_on (sym k i) (sym o i) ++ refer_on (sym d i)))
    where
      of : (k j : Kind) (b : Bool) →
          ask (parent at) (remove_right k) Old ++ ask (parent at) (make_right j) Old
          ++ ask (parent new) (make_right k) New ++ ask (parent new) (remove_right j) New
          ++ when b (ask (parent at) right.refer Old ++ ask (parent new) right.refer New)
          ≡ map (ask_at at new) (exchange_on k j ++ refer_on b)
      of k j true = refl
      of k j false = refl

  pub link_same : (kind : Kind) (differ : Bool) → kind ≡ kind_at s at → differ ≡ parents_differ s at new
      → enters s at new New ++ refers s at new
      ≡ map (ask_at at new) ((ask_on Entered (make_right kind) ∷ []) ++ refer_on differ)
  link_same kind differ k d =
      of (kind_at s at) (parents_differ s at new)
      ∙ (λ i. map (ask_at at new) ((ask_on Entered (make_right (sym k i)) ∷ []) ++ refer_on (sym d i)))
    where
      of : (k : Kind) (b : Bool) →
          ask (parent new) (make_right k) New
          ++ when b (ask (parent at) right.refer Old ++ ask (parent new) right.refer New)
          ≡ map (ask_at at new) ((ask_on Entered (make_right k) ∷ []) ++ refer_on b)
      of k true = refl
      of k false = refl

  pub goes_same : (kind : Kind) (differ : Bool) → kind ≡ kind_at s at → differ ≡ parents_differ s at new
      → goes s at new New ≡ map (move_at at new) (goes_on differ There kind)
  goes_same kind differ k d =
      of (kind_at s at) (parents_differ s at new) ∙ (λ i. map (move_at at new) (goes_on (sym d i) There (sym k i)))
    where
      of : (k : Kind) (b : Bool) → when b
          (record { from = at; into = parent new; relevant = relevant k; place = New } ∷ [])
          ≡ map (move_at at new) (goes_on b There k)
      of k true = refl
      of k false = refl

  pub both_go : (kind other : Kind) (differ back : Bool) → kind ≡ kind_at s at → other ≡ kind_at s new
      → differ ≡ parents_differ s at new → back ≡ parents_differ s new at
      → goes s at new New ++ goes s new at Old
      ≡ map (move_at at new) (goes_on differ There kind ++ goes_on back Back other)
  both_go kind other differ back k o d e =
      of (kind_at s at) (kind_at s new) (parents_differ s at new) (parents_differ s new at)
      ∙ (λ i. map (move_at at new) (goes_on (sym d i) There (sym k i) ++ goes_on (sym e i) Back (sym o i)))
    where
      of : (k j : Kind) (b c : Bool) →
          when b (record { from = at; into = parent new; relevant = relevant k; place = New } ∷ [])
          ++ when c (record { from = new; into = parent at; relevant = relevant j; place = Old } ∷ [])
          ≡ map (move_at at new) (goes_on b There k ++ goes_on c Back j)
      of k j true true = refl
      of k j true false = refl
      of k j false true = refl
      of k j false false = refl
