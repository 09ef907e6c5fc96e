use Rattle.std.proofs.Common.{ℕ, List, [], ◌∙◌, refl, subst, arith}
use Rattle.std.specs.Prelude.{string_bytes}
use Rattle.std.specs.Io.KnownBytes.{Appends}
use Rattle.ll_wire.specs.Grammar.{line_of}
use Rattle.ll_wire.specs.Entries.{header_tokens, entry_line}
use Rattle.ll_wire.specs.WriterGains.{AppendsFront}
use Rattle.ll_wire.proofs.WrittenText.{appends-none, front-none}
use Rattle.ll_audit.proofs.SavedText.{ends, stops, waits_first, waits_more}
use Rattle.ll_audit.proofs.archive.save_over.Goals as goal

pub loop-entry-init : goal.loop-entry-init
loop-entry-init g c = record {
  waits = waits_first (line_of (header_tokens c.args.header)) entry_line c.args.entries.now
      (g.E.Ends.devices c.args.ends.now).contents (string_bytes c.in-Ok.text) c.in-Ok.ensures.1;
  whole = c.requires.whole;
  same = refl;
}

pub returns-in_default-push_entry-clause-err : goal.returns-in_default-push_entry-clause-err
returns-in_default-push_entry-clause-err g c =
    let now = (g.E.Ends.devices c.loop-entry.ends).contents in
    stops (line_of (header_tokens c.args.header)) entry_line c.args.entries.now c.loop-entry.entry-index _ now _
    c.loop-entry.invariant.waits now (front-none now _)

pub returns-in_default-write_block-clause-err : goal.returns-in_default-write_block-clause-err
returns-in_default-write_block-clause-err g c =
    let head = line_of (header_tokens c.args.header) in
    let now = (g.E.Ends.devices c.loop-entry.ends).contents in
    let longer = string_bytes c.push_entry.new.text in
    let waits = waits_more head entry_line c.args.entries.now c.loop-entry.entry-index
    (g.E.Ends.devices c.args.ends.now).contents now (string_bytes c.loop-entry.text) c.loop-entry.invariant.waits now
    c.entry-item.result longer longer [] c.loop-entry-test.true c.entry-item.is c.in-Ok-push_entry.ensures refl
    (appends-none now) in
    stops head entry_line c.args.entries.now _ _ now longer waits (g.E.Ends.devices c.write_block.new.ends).contents
    c.in_default-write_block.ensures.err

pub loop-entry-preserved : goal.loop-entry-preserved
loop-entry-preserved g c =
    let wrote = c.in-Ok-write_block.ensures.ok in record {
      waits = waits_more (line_of (header_tokens c.args.header)) entry_line c.args.entries.now c.loop-entry.entry-index
          (g.E.Ends.devices c.args.ends.now).contents (g.E.Ends.devices c.loop-entry.ends).contents
          (string_bytes c.loop-entry.text) c.loop-entry.invariant.waits
          (g.E.Ends.devices c.write_block.new.ends).contents
          c.entry-item.result (string_bytes c.push_entry.new.text) (string_bytes c.write_block.new.text) wrote.0
          c.loop-entry-test.true c.entry-item.is c.in-Ok-push_entry.ensures wrote.1 wrote.2;
      whole = c.in-Ok-write_block.ensures.whole;
      same = c.write_block.ensures.same ∙ c.loop-entry.invariant.same;
    }

pub returns-in-Ok-write_out-clause-ok : goal.returns-in-Ok-write_out-clause-ok
returns-in-Ok-write_out-clause-ok g c =
    let now = (g.E.Ends.devices c.loop-entry.ends).contents in
    let new = (g.E.Ends.devices c.write_out.new.ends).contents in
    ends (line_of (header_tokens c.args.header)) entry_line c.args.entries.now c.loop-entry.entry-index _ now _
    c.loop-entry.invariant.waits new (omega arith)
    (subst (λ (text : List ℕ). Appends now new text) (c.as_bytes.ensures.value ∙ c.as_str.ensures.value)
    c.in-Ok-write_out.ensures.ok)

pub returns-clause-err : goal.returns-clause-err
returns-clause-err g c =
    let now = (g.E.Ends.devices c.loop-entry.ends).contents in
    let new = (g.E.Ends.devices c.write_out.new.ends).contents in
    stops (line_of (header_tokens c.args.header)) entry_line c.args.entries.now c.loop-entry.entry-index _ now _
    c.loop-entry.invariant.waits new
    (subst (λ (text : List ℕ). AppendsFront now new text) (c.as_bytes.ensures.value ∙ c.as_str.ensures.value)
    c.in-Err.ensures.err)
