-- What a commit finds: the directories where a walk stands at its ends, what they have under the last names, and the
-- answer of a walk that can't go on.
use Rattle.std.specs.Prelude.{◌≡◌, ℕ, Bool, true, false, ◌||◌, List, [], ◌∷◌, map, Some}
use Rattle.std.specs.Prelude.{slice_get, refl}
use Rattle.std.specs.List.{list_any, flat_map}
use Rattle.std.proofs.Common.{sym, subst, ap, ◌∙◌}
use Rattle.std.proofs.lemmas.List.Folds.{list_any-append}
use Rattle.ll_rights.specs.declared.kind.Kind.TheVariants.{Dir}
use Rattle.ll_rights.specs.declared.errno.Errno.{Errno}
use Rattle.ll_rights.specs.Map.{get}
use Rattle.ll_path.specs.Path.{Path, parent, last_name, is_root}
use Rattle.ll_path.specs.declared.target.Target.{Target}
use Rattle.ll_rules.specs.Layer.{Layer}
use Rattle.ll_seq.specs.declared.call.Call.{Call}
use Rattle.ll_seq.specs.declared.reply.Reply.TheVariants.{Refused}
use Rattle.ll_seq.specs.Call.{path_of, targets, first_path, second_path}
use Rattle.ll_seq.specs.State.{Name, State, root, kind_of}
use Rattle.ll_seq.specs.Tree.{named, directory_of, ancestors}
use Rattle.ll_seq.specs.Asked.{grants}
use Rattle.ll_seq.specs.Stages.{in_the_way, no_directory, kind_of_child}
use Rattle.ll_seq.proofs.CutChains.{named-child}
use Rattle.ll_laws.proofs.Chains.{same_Some}
use Rattle.ll_laws.proofs.Unrefused.{parent_last}
use Rattle.ll_laws.proofs.Trees.{IsTree}
use Rattle.ll_laws.specs.Walk.{Walk, Leg, Position, Above, Down, Split, rights_where, turn, at_ends}
use Rattle.ll_laws.specs.World.{World, shown, domain_of, reply_to, last_node, last_nodes}
use Rattle.ll_laws.specs.Walks.{IsRight, AreRight}
use Rattle.ll_laws.specs.Sound.{IsSound}
use Rattle.ll_laws.specs.Commits.{HasEnded, first_end, second_end}
use Rattle.ll_laws.proofs.EndsReached.{ends_reached, blocked_refused}
use Rattle.ll_laws.proofs.SoundSteps.{holds_of}
use Rattle.ll_node.specs.Accounts.{names_map}
use Rattle.ll_node.proofs.NameMaps.{get-names_map}

-- the leg is in the directory where the path's last name stands, or would
pub record IsEnd (s : State) (domain : List Layer) (path : Path) (leg : Leg) : Type 0 where
  pub names : named s (parent path) ≡ Some leg.here
  pub directory : kind_of s leg.here ≡ Some Dir
  pub here : leg.here ≡ directory_of s path
  pub way : in_the_way s (parent path) root ≡ []
  pub chain : leg.chain ≡ ancestors s (parent path)
  pub masks : leg.masks ≡ map (λ layer. rights_where (grants s layer (parent path))) domain

end_of : (s : State) (domain : List Layer) (path : Path) (leg : Leg) → IsRight s domain leg → HasEnded s path leg
    → IsEnd s domain path leg
end_of s domain path leg r e = record {
  names = ap (named s) (sym e.walked) ∙ r.names;
  directory = r.directory;
  here = e.here;
  way = e.way;
  chain = r.chain ∙ ap (ancestors s) e.walked;
  masks = r.masks ∙ ap (λ p. map (λ layer. rights_where (grants s layer p)) domain) e.walked;
}

subst_leg : (s : State) (domain : List Layer) (a b : Leg) → IsRight s domain a → a ≡ b → IsRight s domain b
subst_leg s domain a b r e = subst (IsRight s domain) e r

first_right : (s : State) (domain : List Layer) (at : Position) (leg : Leg) → AreRight s domain at
    → first_end at ≡ Some leg → IsRight s domain leg
first_right s domain Above leg r e = absurd (cc e)
first_right s domain (Down trunk) leg r e = subst_leg s domain trunk leg r (same_Some trunk leg e)
first_right s domain (Split trunk old new) leg r e = subst_leg s domain old leg r.1 (same_Some old leg e)

second_right : (s : State) (domain : List Layer) (at : Position) (leg : Leg) → AreRight s domain at
    → second_end at ≡ Some leg → IsRight s domain leg
second_right s domain Above leg r e = absurd (cc e)
second_right s domain (Down trunk) leg r e = subst_leg s domain trunk leg r (same_Some trunk leg e)
second_right s domain (Split trunk old new) leg r e = subst_leg s domain new leg r.2 (same_Some new leg e)

module _ (w : World) (number : ℕ) (walk : Walk) (sound : IsSound w) (is : get w.walks number ≡ Some walk)
    (fresh : walk.stale ≡ false) (at : at_ends walk.call walk.at ≡ true) (leg : Leg) where
  -- the leg of the call's first path, or its only one
  pub first_is_end : first_end walk.at ≡ Some leg → IsEnd (shown w) (domain_of w number) (first_path walk.call) leg
  first_is_end e =
      end_of (shown w) (domain_of w number) (first_path walk.call) leg
      (first_right (shown w) (domain_of w number) walk.at leg ((sound.valid number walk is).1 fresh) e)
      ((ends_reached w (holds_of w sound) number walk is fresh at leg).0 e)

  pub second_is_end : second_end walk.at ≡ Some leg → IsEnd (shown w) (domain_of w number) (second_path walk.call) leg
  second_is_end e =
      end_of (shown w) (domain_of w number) (second_path walk.call) leg
      (second_right (shown w) (domain_of w number) walk.at leg ((sound.valid number walk is).1 fresh) e)
      ((ends_reached w (holds_of w sound) number walk is fresh at leg).1 e)

-- where the next name of the leg in turn names no directory, that is the answer
pub blocked_reply : (w : World) (number : ℕ) (walk : Walk) → IsSound w → get w.walks number ≡ Some walk
    → walk.stale ≡ false → (leg : Leg) → turn walk.at ≡ Some leg → (name : Name) (rest : Path) → leg.ahead ≡ name ∷ rest
    → (errno : Errno) → slice_get (no_directory (kind_of_child (shown w) (get (names_map (shown w) leg.here) name))) 0
    ≡ Some errno → reply_to w number walk.call ≡ Refused errno
blocked_reply w number walk sound is fresh leg in_turn name rest ahead errno first =
    blocked_refused w (holds_of w sound) number walk is fresh leg in_turn name rest ahead errno
    (ap (λ o. slice_get (no_directory (kind_of_child (shown w) o)) 0) (sym (get-names_map (shown w) leg.here name))
    ∙ first)

-- ---- the last name

module _ (s : State) (tree : IsTree s) (domain : List Layer) (path : Path) (leg : Leg) (end : IsEnd s domain path leg)
  where
    -- the lent directory has under the last name what the path names
    pub end_look_up : is_root path ≡ false → get (names_map s leg.here) (last_name path) ≡ named s path
    end_look_up below = get-names_map s leg.here (last_name path)
        ∙ sym (named-child s path (parent path) (last_name path) leg.here (parent_last path below) end.names)

-- ---- marks at the last names

pub any_last : (s : State) (call : Call) (f : ℕ → Bool)
    → list_any f (last_nodes s call) ≡ list_any (λ (t : Target). list_any f (last_node s (path_of t))) (targets call)
any_last s call f = over (targets call)
  where
    over : (ts : List Target) → list_any f (flat_map (λ (t : Target). last_node s (path_of t)) ts)
        ≡ list_any (λ (t : Target). list_any f (last_node s (path_of t))) ts
    over [] = refl
    over (t ∷ ts) = list_any-append f (last_node s (path_of t)) (flat_map (λ (u : Target). last_node s (path_of u)) ts)
        ∙ ap (λ b. list_any f (last_node s (path_of t)) || b) (over ts)
