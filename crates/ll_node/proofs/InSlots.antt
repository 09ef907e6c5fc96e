-- The changes of an inode's slot: what each does there, and that it spares the others.
use Rattle.std.specs.Prelude.{◌≡◌, ◌≢◌, ℕ, ◌==◌, cond, List, [], ◌∷◌, map, Some, refl}
use Rattle.std.specs.Option.{option_map_or}
use Rattle.std.proofs.Common.{inl, inr, sym, ap, ◌∙◌}
use Rattle.std.proofs.lemmas.Bool.{eq-eqb, ne_eqb, cases_eq, cond-true, cond-false, cond_both}
use Rattle.ll_rights.specs.Map.{get, insert, remove}
use Rattle.ll_seq.specs.Effects.{resized}
use Rattle.ll_seq.specs.State.{Name}
use Rattle.ll_node.specs.Slot.{renamed}
use Rattle.ll_node.specs.declared.held.Held.{Held}
use Rattle.ll_node.specs.Lent.{named_in, unnamed_in, resized_in}

module _ (inode : ℕ) (held changed : Held) where
  here : held.inode ≡ inode → changed ≡ cond (held.inode == inode) changed held
  here same = sym (cond-true (held.inode == inode) changed held (eq-eqb held.inode inode same))

  elsewhere : held.inode ≢ inode → cond (held.inode == inode) changed held ≡ held
  elsewhere other = cond-false (held.inode == inode) changed held (ne_eqb held.inode inode other)

module _ (inode size : ℕ) (held : Held) where
  pub resized_here : held.inode ≡ inode
      → record held { node = record held.node { bytes = resized held.node.bytes size } } ≡ resized_in inode size held
  resized_here same = here inode held _ same

  pub resized_elsewhere : held.inode ≢ inode → resized_in inode size held ≡ held
  resized_elsewhere other = elsewhere inode held _ other

module _ (directory : ℕ) (name : Name) (inode : ℕ) (held : Held) where
  pub named_here : held.inode ≡ directory
      → record held { node = record held.node { names = insert held.node.names name inode } }
      ≡ named_in directory name inode held
  named_here same = here directory held _ same

  pub named_elsewhere : held.inode ≢ directory → named_in directory name inode held ≡ held
  named_elsewhere other = elsewhere directory held _ other

  named_inode : (named_in directory name inode held).inode ≡ held.inode
  named_inode = cond_both (held.inode == directory) _ held (λ (h : Held). h.inode ≡ held.inode) (λ e. refl) (λ e. refl)

module _ (directory : ℕ) (name : Name) (held : Held) where
  unnamed_here : held.inode ≡ directory
      → record held { node = record held.node { names = remove held.node.names name } } ≡ unnamed_in directory name held
  unnamed_here same = here directory held _ same

  unnamed_elsewhere : held.inode ≢ directory → unnamed_in directory name held ≡ held
  unnamed_elsewhere other = elsewhere directory held _ other

  unnamed_inode : (unnamed_in directory name held).inode ≡ held.inode
  unnamed_inode = cond_both (held.inode == directory) _ held (λ (h : Held). h.inode ≡ held.inode) (λ e. refl)
      (λ e. refl)

-- ---- a name that moves

module _ (from : ℕ) (old : Name) (into : ℕ) (new : Name) (inode : ℕ) where
  pub moved_elsewhere : from ≡ into → (held : Held) → held.inode ≢ from
      → named_in into new inode (unnamed_in from old held) ≡ held
  moved_elsewhere same held other =
      ap (named_in into new inode) (unnamed_elsewhere from old held other)
      ∙ named_elsewhere into new inode held (λ there. other (there ∙ sym same))

  pub moved_within : from ≡ into → (held : Held) → get held.node.names old ≡ Some inode → held.inode ≡ from
      → record held { node = record held.node { names = renamed held.node.names old new } }
      ≡ named_in into new inode (unnamed_in from old held)
  moved_within same held got lies =
      ap (λ o. record held {
        node = record held.node
            { names = option_map_or (λ (i : ℕ). insert (remove held.node.names old) new i) o held.node.names };
      }) got
      ∙ named_here into new inode (record held { node = record held.node { names = remove held.node.names old } }) (lies
      ∙ same)
      ∙ ap (named_in into new inode) (unnamed_here from old held lies)

  -- between two directories it is the same which change comes first
  either_first : from ≢ into → (held : Held)
      → unnamed_in from old (named_in into new inode held) ≡ named_in into new inode (unnamed_in from old held)
  either_first differ held = elim (cases_eq held.inode into) [
    | inl lies ↦
        let other : held.inode ≢ from = λ there. differ (sym there ∙ lies) in
        unnamed_elsewhere from old (named_in into new inode held)
        (λ there. other (sym (named_inode into new inode held) ∙ there))
        ∙ ap (named_in into new inode) (sym (unnamed_elsewhere from old held other))
    | inr other ↦
        ap (unnamed_in from old) (named_elsewhere into new inode held other)
        ∙ sym (named_elsewhere into new inode (unnamed_in from old held)
        (λ there. other (sym (unnamed_inode from old held) ∙ there)))
  ]

  pub moved_between : from ≢ into → (lent : List Held)
      → map (unnamed_in from old) (map (named_in into new inode) lent)
      ≡ map (λ held. named_in into new inode (unnamed_in from old held)) lent
  moved_between differ [] = refl
  moved_between differ (held ∷ lent) = λ i. either_first differ held i ∷ moved_between differ lent i
