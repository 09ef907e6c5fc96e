-- The rights that each call needs, by the node that each is needed on. Cited by contracts between crates alone. own
use Rattle.std.specs.Prelude.{◌≡◌, ℕ, Bool, not, ◌&&◌, List, [], ◌∷◌, ◌++◌, map, Option, Some, None}
use Rattle.ll_rights.specs.declared.kind.Kind.{Kind}
use Rattle.ll_rights.specs.Kind.{make_right, remove_right, relevant}
use Rattle.ll_rights.specs.Right as right
use Rattle.ll_path.specs.Path.{Path, parent}
use Rattle.ll_decide.specs.declared.demands.Demands.{Demands}
use Rattle.ll_decide.specs.declared.demands.On.{On}
use Rattle.ll_decide.specs.declared.demands.On.TheVariants.{Itself, Other, Parent, Left, Entered}
use Rattle.ll_decide.specs.declared.demands.Way.{Way}
use Rattle.ll_decide.specs.Demands.{AreAsks, AreMoves, ask_on, move_on}
use Rattle.ll_decide.specs.Verdict.{Ask, Move, when}
use Rattle.ll_seq.specs.CallParts.{asked, moved}
use Rattle.ll_seq.specs.Call.{reads, writes, first_path, second_path}
use Rattle.ll_seq.specs.declared.call.Call.{Call}
use Rattle.ll_seq.specs.declared.call.Mode.{Mode}
use Rattle.ll_seq.specs.State.{State}
use Rattle.ll_seq.specs.Tree.{ancestors}

-- the first path, the second path, and their directories
abbrev pub path_on : Path → Path → On → Path
path_on first second Itself = first
path_on first second Other = second
path_on first second Parent = parent first
path_on first second Left = parent first
path_on first second Entered = parent second

abbrev pub ask_at : Path → Path → Ask On → Ask Path
ask_at first second a = record { path = path_on first second a.path; right = a.right; place = a.place }

abbrev pub move_at : Path → Path → Move On → Move Path
move_at first second m = record {
  from = path_on first second m.from;
  into = path_on first second m.into;
  relevant = m.relevant;
  place = m.place;
}

-- the chain of inodes for each `On` of the call's paths
abbrev pub chains : State → Call → On → List ℕ
chains s call on = ancestors s (path_on (first_path call) (second_path call) on)

-- the sets have the rights and moves of some lists, and these lists are the call's, on its paths
pub record AreDemands (s : State) (call : Call) (d : Demands) : Type 0 where
  pub asks : List (Ask On)
  pub moves : List (Move On)
  pub are_asks : AreAsks d asks
  pub are_moves : AreMoves d moves
  pub all_asked : asked s call ≡ map (ask_at (first_path call) (second_path call)) asks
  pub all_moved : moved s call ≡ map (move_at (first_path call) (second_path call)) moves

-- ---- The lists of the calls that need more than one right

abbrev pub opening_on : Mode → Bool → List (Ask On)
opening_on mode exists =
    when (not exists) (ask_on Parent right.make_reg ∷ [])
    ++ when (reads mode.access) (ask_on Itself right.read_file ∷ [])
    ++ when (writes mode.access) (ask_on Itself right.write_file ∷ [])
    ++ when (mode.truncate && exists) (ask_on Itself right.truncate ∷ [])

-- refer on both directories, if they differ
abbrev pub refer_on : Bool → List (Ask On)
refer_on differ = when differ (ask_on Left right.refer ∷ ask_on Entered right.refer ∷ [])

abbrev pub goes_on : Bool → Way → Kind → List (Move On)
goes_on differ way kind = when differ (move_on way (relevant kind) ∷ [])

-- a node of this kind leaves the first directory for the second
abbrev pub moving_on : Kind → List (Ask On)
moving_on kind = ask_on Left (remove_right kind) ∷ ask_on Entered (make_right kind) ∷ []

abbrev pub replacing_on : Option Kind → List (Ask On)
replacing_on None = []
replacing_on (Some kind) = ask_on Entered (remove_right kind) ∷ []

abbrev pub exchange_on : Kind → Kind → List (Ask On)
exchange_on kind other =
    ask_on Left (remove_right kind) ∷ ask_on Left (make_right other)
    ∷ ask_on Entered (make_right kind) ∷ ask_on Entered (remove_right other) ∷ []
