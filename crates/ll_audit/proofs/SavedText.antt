-- What is written, part after part.
use Rattle.std.proofs.Common.{◌≡◌, ℕ, ◌+◌, ◌<◌, ◌≤◌, List, [], ◌++◌, length, take, drop, Option, sym, ap, ◌∙◌}
use Rattle.std.proofs.Common.{append_assoc, subst, get_or}
use Rattle.std.specs.Io.KnownBytes.{Appends}
use Rattle.std.specs.List.{flat_map}
use Rattle.std.proofs.lemmas.List.{append-nil, take_all, take_more, take-append-drop, flat_map_more}
use Rattle.std.proofs.lemmas.Grind.{flat_map-append}
use Rattle.ll_wire.specs.WriterGains.{AppendsFront}
use Rattle.ll_wire.proofs.WrittenText.{appends-more, appends-none}

-- Of these items' lines, after the head, so many are told: what was written, and the text that waits
pub record IsWaiting {A : Type 0} (head : List ℕ) (line : A → List ℕ) (items : List A) (done : ℕ)
    (old new : Option (List ℕ)) (text : List ℕ) : Type 0 where
  pub written : List ℕ
  pub whole : head ++ flat_map line (take done items) ≡ written ++ text
  pub wrote : Appends old new written

module _ {A : Type 0} (head : List ℕ) (line : A → List ℕ) (items : List A) where
  pub waits_first : (old : Option (List ℕ)) (text : List ℕ) → text ≡ head → IsWaiting head line items 0 old old text
  waits_first old text e = record { written = []; whole = append-nil head ∙ sym e; wrote = appends-none old }

  module _ (done : ℕ) (old mid : Option (List ℕ)) (text : List ℕ) (waits : IsWaiting head line items done old mid text)
    where
      -- one line more waits, and a front of what waits is written
      pub waits_more : (new : Option (List ℕ)) (item : A) (longer left front : List ℕ) → done < length items
          → item ≡ get_or items done item → longer ≡ text ++ line item
          → longer ≡ front ++ left → Appends mid new front → IsWaiting head line items (done + 1) old new left
      waits_more new item longer left front within at grown cut wrote = record {
        written = waits.written ++ front;
        whole = ap (λ (xs : List A). head ++ flat_map line xs) (take_more items done item within)
            ∙ sym (flat_map_more line head (take done items) (get_or items done item))
            ∙ ap (λ (x : A). (head ++ flat_map line (take done items)) ++ line x) (sym at)
            ∙ ap (λ (x : List ℕ). x ++ line item) waits.whole
            ∙ append_assoc waits.written text (line item)
            ∙ ap (λ (x : List ℕ). waits.written ++ x) (sym grown ∙ cut)
            ∙ sym (append_assoc waits.written front left);
        wrote = appends-more old mid new waits.written front waits.wrote wrote;
      }

      all_told : (head ++ flat_map line items) ≡ (waits.written ++ text) ++ flat_map line (drop done items)
      all_told = ap (λ (xs : List A). head ++ flat_map line xs) (sym (take-append-drop done items))
          ∙ ap (λ (x : List ℕ). head ++ x) (flat_map-append line (take done items) (drop done items))
          ∙ sym (append_assoc head (flat_map line (take done items)) (flat_map line (drop done items)))
          ∙ ap (λ (x : List ℕ). x ++ flat_map line (drop done items)) waits.whole

      -- writing stops early
      pub stops : (new : Option (List ℕ)) → AppendsFront mid new text
          → AppendsFront old new (head ++ flat_map line items)
      stops new f =
          let rest = flat_map line (drop done items) in (
            waits.written ++ f.0,
            f.1 ++ rest,
            all_told ∙ ap (λ (x : List ℕ). (waits.written ++ x) ++ rest) f.2
                ∙ ap (λ (x : List ℕ). x ++ rest) (sym (append_assoc waits.written f.0 f.1))
                ∙ append_assoc (waits.written ++ f.0) f.1 rest,
            appends-more old mid new waits.written f.0 waits.wrote f.3,
          )

      -- all is written
      pub ends : (new : Option (List ℕ)) → length items ≤ done → Appends mid new text
          → Appends old new (head ++ flat_map line items)
      ends new past wrote =
          let whole : head ++ flat_map line items ≡ waits.written ++ text =
          ap (λ (xs : List A). head ++ flat_map line xs) (sym (take_all done items past)) ∙ waits.whole in
          subst (λ (x : List ℕ). Appends old new x) (sym whole)
          (appends-more old mid new waits.written text waits.wrote wrote)
