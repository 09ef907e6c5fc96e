-- What `why` says of a command. own
use Rattle.std.specs.Prelude.{◌≡◌, ℕ, false, List, [], ◌∷◌, ◌++◌, codes}
use Rattle.ll_rights.specs.Map.{has}
use Rattle.ll_seq.specs.State.{State}
use Rattle.ll_seq.specs.Step.{step}
use Rattle.ll_seq.specs.declared.call.Call.{Call}
use Rattle.ll_seq.specs.declared.reply.Reply.{Reply}
use Rattle.ll_wire.specs.Grammar.{SpellsCommand, call_tokens, line_of, reply_tokens}
use Rattle.ll_why.specs.Explained.{Explains}
use Rattle.ll_why.specs.Told.{told_text}
use Rattle.ll_why.specs.WhyJson.{call_json}
use Rattle.ll_why.specs.declared.explanation.Explanation.{Explanation}
use Rattle.ll_why.specs.declared.style.WhyStyle.{WhyStyle}
use Rattle.ll_why.specs.declared.style.WhyStyle.TheVariants.{Lines, Json}

-- the command, the tree's reply, and what policy says of it
abbrev pub command_lines : Call → Reply → Explanation → List ℕ
command_lines call reply told =
    line_of (call_tokens call) ++ line_of (codes "answered" ∷ reply_tokens reply) ++ told_text call told

abbrev pub command_text : WhyStyle → Call → Reply → Explanation → List ℕ
command_text Lines call reply told = command_lines call reply told
command_text Json call reply told = call_json call reply told

-- the text on a call of this client in this state of a tree of this level, with its step's reply
pub record IsCallWhy (style : WhyStyle) (level : ℕ) (s : State) (client : ℕ) (call : Call) (text : List ℕ)
    : Type 0 where
  pub told : Explanation
  pub reply : Reply
  pub explains : Explains level s client call told
  pub answered : (fresh : ℕ) × (has s.clients fresh ≡ false) × (reply ≡ (step s client call fresh).0)
  pub is : text ≡ command_text style call reply told

-- the word is a command's line, without the line feed (10)
abbrev pub IsCommand : List ℕ → Call → Type 0
IsCommand word call = SpellsCommand (word ++ 10 ∷ []) 1 call
