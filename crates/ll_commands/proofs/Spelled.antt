-- Commands that words spell, one after the other.
use Rattle.std.proofs.Common.{◌≡◌, ◌∙◌, ◌+◌, ◌++◌, ◌∷◌, [], ℕ, Bor, List, drop, map, ap, sym, subst, inl, inr}
use Rattle.std.proofs.Common.{◌≤◌, append-nil, append_assoc, false, length, refl}
use Rattle.std.specs.List.{AllZip}
use Rattle.std.proofs.lemmas.List.{drop_all}
use Rattle.std.proofs.lemmas.List.Elements.{All-cons, All-nil}
use Rattle.clap.specs.Words.{Text}
use Rattle.ll_seq.specs.History.{is_connect}
use Rattle.ll_seq.specs.declared.call.Call.{Call}
use Rattle.ll_seq.specs.declared.call.Call.TheVariants.{Connect}
use Rattle.ll_session.specs.Session.{AreOthers}
use Rattle.ll_wire.specs.Grammar.{IsCall}
use Rattle.ll_why.specs.CallWhy.{IsCommand}
use Rattle.ll_commands.specs.Why.{HasNoCommand, IsNoCommand}

abbrev texts : List (Bor Text) → List Text
texts words = map (λ w. w.now) words

pub spell_on : (words left more : List (Bor Text)) (word : Bor Text) (calls new : List Call) (call : Call)
    → left ≡ word ∷ more → IsCommand word.now call → new ≡ calls ++ call ∷ []
    → ((rest : List Call) → AllZip IsCommand (texts left) rest → AllZip IsCommand (texts words) (calls ++ rest))
    → (rest : List Call) → AllZip IsCommand (texts more) rest → AllZip IsCommand (texts words) (new ++ rest)
spell_on words left more word calls new call split is same before rest spell =
    subst (λ (l : List Call). AllZip IsCommand (texts words) l)
    (sym (ap (λ (l : List Call). l ++ rest) same ∙ append_assoc calls (call ∷ []) rest))
    (before (call ∷ rest) (subst (λ (l : List (Bor Text)). AllZip IsCommand (texts l) (call ∷ rest)) (sym split)
    (is, spell)))

pub bad_on : (words left more : List (Bor Text)) (word : Bor Text) → left ≡ word ∷ more
    → (HasNoCommand (texts left) → HasNoCommand (texts words)) → HasNoCommand (texts more)
    → HasNoCommand (texts words)
bad_on words left more word split before bad =
    before (subst (λ (l : List (Bor Text)). HasNoCommand (texts l)) (sym split) (inr bad))

pub bad_here : (words left more : List (Bor Text)) (word : Bor Text) → left ≡ word ∷ more
    → (HasNoCommand (texts left) → HasNoCommand (texts words)) → IsNoCommand word.now
    → HasNoCommand (texts words)
bad_here words left more word split before bad =
    before (subst (λ (l : List (Bor Text)). HasNoCommand (texts l)) (sym split) (inl bad))

-- no word is left
pub spell_all : (words : List (Bor Text)) (i : ℕ) (calls : List Call) → length words ≤ i
    → ((rest : List Call) → AllZip IsCommand (texts (drop i words)) rest
    → AllZip IsCommand (texts words) (calls ++ rest))
    → AllZip IsCommand (texts words) calls
spell_all words i calls end before =
    subst (λ (l : List Call). AllZip IsCommand (texts words) l) (append-nil calls)
    (before [] (subst (λ (l : List (Bor Text)). AllZip IsCommand (texts l) []) (sym (drop_all i words end)) tt))

-- ---- none connects

pub no_connect : (call : Call) → IsCall call → is_connect call ≡ false
no_connect Connect is = absurd is
no_connect _ is = refl

pub others : (words : List Text) (calls : List Call) → AllZip IsCommand words calls → AreOthers calls
others [] [] is = All-nil (λ call. is_connect call ≡ false)
others [] (call ∷ calls) is = absurd is
others (word ∷ words) [] is = absurd is
others (word ∷ words) (call ∷ calls) is =
    All-cons (λ one. is_connect one ≡ false) call calls (no_connect call is.0.is_call) (others words calls is.1)
