use Rattle.std.proofs.Common.{◌≡◌, rules, ap, sym, ◌∙◌}
use Rattle.std.specs.Prelude.{refl}
use Rattle.ll_rights.specs.declared.errno.Errno.TheVariants.{EMFILE}
use Rattle.std.specs.Option.{option_copied}
use Rattle.std.specs.Cmp.{nat_cmp_total}
use Rattle.std.specs.FinMap.{nat_cmp-IsAntisymmetric}
use Rattle.ll_rights.specs.Map.{get, has, insert}
use Rattle.ll_rights.proofs.Maps.{get-insert_same}
use Rattle.ll_seq.specs.declared.client.ClientRecord.{ClientRecord}
use Rattle.ll_seq.specs.Effects.{child_of}
use Rattle.ll_seq.specs.Facts.{have_room}
use Rattle.ll_seq.specs.State.{State}
use Rattle.ll_seq.proofs.Results.{same_some}
use Rattle.ll_seq.specs.declared.reply.Reply.TheVariants.{Spawned}
use Rattle.ll_seq.specs.declared.call.Call.TheVariants.{Spawn}
use Rattle.ll_seq.specs.Step.{client_of}
use Rattle.ll_plain.specs.contracts.Plain.{the_view}
use Rattle.ll_plain.proofs.Clients.{got_client, kept, client_changed}
use Rattle.ll_plain.proofs.Tied.{tied_with}
use Rattle.ll_plain.proofs.Records.{refused_if, not_refused, no_denials}
use Rattle.ll_plain.proofs.StepParts.{refused_after, does_by, starves}
use Rattle.ll_plain.proofs.Plain.spawn.Goals as goal

pub returns-then-len-ge-TREE_CLIENTS : goal.returns-then-len-ge-TREE_CLIENTS
returns-then-len-ge-TREE_CLIENTS c =
    refused_after c.args.self.now c.args.client Spawn refl
    (no_denials c.args.self.now (client_of c.args.self.now c.args.client).domain) EMFILE
    (refused_if _ EMFILE (search rules)) c.args.fresh

pub returns-in_default : goal.returns-in_default
returns-in_default c = starves c.args.self.now c.args.client Spawn refl
    (no_denials c.args.self.now (client_of c.args.self.now c.args.client).domain) (not_refused _ EMFILE (search rules))
    _ refl refl c.args.fresh

pub returns-in-Err : goal.returns-in-Err
returns-in-Err c = starves c.args.self.now c.args.client Spawn refl
    (no_denials c.args.self.now (client_of c.args.self.now c.args.client).domain) (not_refused _ EMFILE (search rules))
    _ (kept _ c.args.self.now c.insert.new.self c.self.view_is c.in-Err.ensures.err) refl c.args.fresh

pub returns : goal.returns
returns c =
    does_by c.args.self.now c.args.client Spawn refl
    (no_denials c.args.self.now (client_of c.args.self.now c.args.client).domain)
    (not_refused _ EMFILE (search rules)) c.args.fresh (Spawned c.args.fresh) _
    (ap (λ z. (Spawned c.args.fresh, z))
    (client_changed _ c.args.self.now c.insert.new.self c.args.fresh _ c.self.view_is
    (c.in_default-insert.ensures.ok ∙ ap (insert c.self.inside.clients c.args.fresh) c.in-Ok.ensures)))

pub returns-then-not-have_room : goal.returns-then-not-have_room
returns-then-not-have_room c =
    starves c.args.self.now c.args.client Spawn refl
    (no_denials c.args.self.now (client_of c.args.self.now c.args.client).domain) (not_refused _ EMFILE (search rules))
    _ refl refl c.args.fresh

pub unreachable-requires : goal.unreachable-requires
unreachable-requires c =
    let there = ap (λ m. get m c.args.fresh) c.in_default-insert.ensures.ok
    ∙ get-insert_same nat_cmp_total nat_cmp-IsAntisymmetric c.self.inside.clients c.args.fresh c.in-Ok.child in
    absurd (cc (sym (ap option_copied c.in_default-get.is) ∙ c.get.ensures ∙ there))

pub open_all-requires : goal.open_all-requires
open_all-requires c =
    let there = ap (λ m. get m c.args.fresh) c.in_default-insert.ensures.ok
    ∙ get-insert_same nat_cmp_total nat_cmp-IsAntisymmetric c.self.inside.clients c.args.fresh c.in-Ok.child in
    let same = same_some (sym c.get.ensures ∙ ap option_copied c.in-Some.is) there in
    ap (λ (x : ClientRecord). have_room c.self.inside.facts x.descriptors) same ∙ sym c.have_room.ensures
    ∙ c.if-not-have_room.false

pub invariant_of-self-2 : goal.invariant_of-self-2
invariant_of-self-2 c =
    let before : State = the_view c.self.inside in
    let holder : ClientRecord = client_of c.args.self.now c.args.client in
    let there = ap (λ m. get m c.args.fresh) c.in_default-insert.ensures.ok
    ∙ get-insert_same nat_cmp_total nat_cmp-IsAntisymmetric c.self.inside.clients c.args.fresh c.in-Ok.child in
    let same = same_some (sym c.get.ensures ∙ ap option_copied c.in-Some.is) there in
    let child : c.in-Ok.child ≡ child_of before.rules holder =
    c.in-Ok.ensures ∙ ap (λ (z : State). child_of z.rules holder) (sym c.self.view_is) in
    tied_with before c.open_all.new.self c.insert.new.self
    (insert before.clients c.args.fresh (child_of before.rules holder)) c.self.invariant.nodes
    (c.in_default-insert.ensures.ok ∙ ap (insert before.clients c.args.fresh) child)
    (c.open_all.ensures before c.args.client holder c.args.fresh c.self.invariant.kept
    (got_client before c.args.self.now c.args.client c.self.view_is c.requires.caller)
    (ap (λ (z : State). has z.clients c.args.fresh) c.self.view_is ∙ c.requires.fresh)
    (ap (λ (x : ClientRecord). x.descriptors) (sym child ∙ sym same)))
