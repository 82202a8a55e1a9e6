-- Bytes are signed with the next leaf; the post is kept in the own slot if they are a content of the grammar.
use Rattle.std.proofs.Common.{◌≡◌, List, ℕ, length, true, arith, ap, sym, ◌∙◌, refl, subst}
use Rattle.std.proofs.lemmas.Result.{IfOk-from_err}
use Rattle.std.specs.Prelude.{IsTrue, is_ok}
use Rattle.wire_core.specs.Bytes.{IsBytes}
use Rattle.lms_tree.specs.States.{RunState}
use Rattle.phase_message.specs.declared.post.Post.{Post}
use Rattle.phase_message.specs.declared.stage.Slot.{Slot}
use Rattle.phase_message.specs.Offence.{content_read}
use Rattle.phase_message.specs.Stages.{is_slot, kind_of_stage}
use Rattle.stage_log.specs.Table.{filled}
use Rattle.member_spec.specs.declared.conduct.Speech.TheVariants.{Say as Says}
use Rattle.member_spec.specs.declared.mood.Mood.TheVariants.{Spoken}
use Rattle.member_spec.specs.Actor.{actor_behind_answer}
use Rattle.member_parts.specs.Endings.{IsOpen}
use Rattle.member_core.specs.declared.machine.Machine.{Machine}
use Rattle.member_core.specs.Membership.{holdings_of}
use Rattle.member_core.specs.Sound.{IsFormed, IsSound, slot_here}
use Rattle.member_core.specs.Stands.{StandsFor}
use Rattle.member_core.proofs.Posting.{IsOwnContent, IsSigned, leaf-left, own-content, posted-so, posted-sound, posted-stands, put-here, signed-post, strayed-formed, strayed, strayed-so, strayed-sound, strayed-stands, told-reads}
use Rattle.member_core.proofs.Storing.{limit-small}
use Rattle.member_core.proofs.machine.Machine.say.Goals as goal
use Rattle.member_core.proofs.machine.Machine.say.Goals.{After-fall_mute, Joined-self}

pub sign-requires : goal.sign-requires
sign-requires c = leaf-left c.args.self.now c.requires.formed c.requires.ready c.requires.speakable.to_be_asked

-- ---- no signature

pub returns-in_err-signature-clause-formed : goal.returns-in_err-signature-clause-formed
returns-in_err-signature-clause-formed c =
    let m = c.args.self.now in
    let kept = c.in_err-signature.ensures.kept in
    subst (λ (l : RunState). IsFormed (record m { leaves = l })) (sym kept) c.requires.formed

pub returns-in_err-signature-clause-sound : goal.returns-in_err-signature-clause-sound
returns-in_err-signature-clause-sound c = IfOk-from_err c.from_residual.result _ c.from_residual.ensures.0

pub returns-in_err-signature-clause-going : goal.returns-in_err-signature-clause-going
returns-in_err-signature-clause-going c = IfOk-from_err c.from_residual.result _ c.from_residual.ensures.0

pub returns-in_err-signature-clause-handed : goal.returns-in_err-signature-clause-handed
returns-in_err-signature-clause-handed c = IfOk-from_err c.from_residual.result _ c.from_residual.ensures.0

pub returns-in_err-signature-clause-stands : goal.returns-in_err-signature-clause-stands
returns-in_err-signature-clause-stands c = IfOk-from_err c.from_residual.result _ c.from_residual.ensures.0

-- ---- the post

pub same-bytes : goal.same-bytes
same-bytes c = refl

pub is_of_grammar-is_content-requires : goal.is_of_grammar-is_content-requires
is_of_grammar-is_content-requires c =
    let m = c.args.self.now in
    let same = ap (λ (bytes : List ℕ). length bytes) (c.deref-2.ensures.value ∙ c.items-2.ensures) in
    let small = limit-small (kind_of_stage m.log.shape m.stage) in
    omega (arith, same, small, c.requires.short)

pub put-requires-clause-slot : goal.put-requires-clause-slot
put-requires-clause-slot c =
    let m = c.args.self.now in
    subst (λ (slot : Slot). IsTrue (is_slot m.log.shape slot.stage slot.sender)) (sym c.own_slot-slot.ensures)
    c.requires.speakable.to_be_asked.speaks

pub put-requires-clause-content : goal.put-requires-clause-content
put-requires-clause-content c =
    let m = c.args.self.now in
    let same = c.deref-2.ensures.value ∙ c.items-2.ensures in
    let are : IsBytes c.args.bytes = subst IsBytes same c.is_of_grammar-is_content.ensures.bytes in
    let reads = told-reads m c.args.bytes c.deref-2.result.now c.is_of_grammar-is_content.result c.requires.formed same
    c.is_of_grammar-is_content.ensures.value in
    (own-content m (record { content = c.args.bytes; signature = c.of.result }) are (reads ∙ c.if-is_content.true) c.requires.slot
    c.requires.short).kept

-- ---- a post that is kept

abbrev post-kept : Joined-self → Post
post-kept c = record { content = c.args.bytes; signature = c.of.result }

signed-kept : (c : Joined-self) → IsSigned c.args.self.now (post-kept c)
signed-kept c =
    signed-post c.args.self.now c.args.bytes c.deref.result.now c.in_ok-signature.signature.items c.of.result
    (c.deref.ensures.value ∙ c.items.ensures) c.of.ensures c.in_ok-signature.ensures.signed c.in_ok-signature.ensures.valid c.requires.short

reads-kept : (c : Joined-self) → is_ok (content_read c.args.self.now.log.shape c.args.bytes) ≡ true
reads-kept c =
    told-reads c.args.self.now c.args.bytes c.deref-2.result.now c.is_of_grammar-is_content.result c.requires.formed
    (c.deref-2.ensures.value ∙ c.items-2.ensures) c.is_of_grammar-is_content.ensures.value
    ∙ c.if-is_content.true

content-kept : (c : Joined-self) → IsOwnContent c.args.self.now (post-kept c)
content-kept c =
    let are : IsBytes c.args.bytes = subst IsBytes (c.deref-2.ensures.value ∙ c.items-2.ensures) c.is_of_grammar-is_content.ensures.bytes in
    own-content c.args.self.now (post-kept c) are (reads-kept c) c.requires.slot c.requires.short

log-kept : (c : Joined-self) → c.put.new.self ≡ filled c.args.self.now.log (slot_here c.args.self.now) (post-kept c)
log-kept c =
    put-here c.args.self.now (post-kept c) c.own_slot-slot.result c.put.new.self c.requires.ready c.requires.speakable.to_be_asked
    c.own_slot-slot.ensures c.put.ensures.log

sound-kept : (c : Joined-self) → IsSound (record c.args.self.now { leaves = c.sign.new.self; log = c.put.new.self; mood = Spoken })
sound-kept c =
    posted-so IsSound c.args.self.now (post-kept c) c.sign.new.self c.put.new.self c.in_ok-signature.ensures.spent (log-kept c)
    (posted-sound c.args.self.now (post-kept c) c.requires.formed c.requires.ready c.requires.speakable (signed-kept c) (content-kept c))

pub returns-then-is_content-clause-formed : goal.returns-then-is_content-clause-formed
returns-then-is_content-clause-formed c = (sound-kept c).formed

pub returns-then-is_content-clause-sound : goal.returns-then-is_content-clause-sound
returns-then-is_content-clause-sound c = sound-kept c

pub returns-then-is_content-clause-going : goal.returns-then-is_content-clause-going
returns-then-is_content-clause-going c = c.requires.speakable.to_be_asked.going

pub returns-then-is_content-clause-handed : goal.returns-then-is_content-clause-handed
returns-then-is_content-clause-handed c = refl

pub returns-then-is_content-clause-stands : goal.returns-then-is_content-clause-stands
returns-then-is_content-clause-stands c now start conf a s =
    posted-so (λ (n : Machine). StandsFor now start conf (actor_behind_answer conf a (Says c.args.bytes)) (holdings_of n))
    c.args.self.now (post-kept c) c.sign.new.self c.put.new.self c.in_ok-signature.ensures.spent (log-kept c)
    (posted-stands now start conf a c.args.self.now (post-kept c) c.requires.formed c.requires.ready c.requires.speakable.to_be_asked
    (signed-kept c) (reads-kept c) s)

-- ---- a post that is not kept

abbrev post-strayed : After-fall_mute → Post
post-strayed c = record { content = c.args.bytes; signature = c.of.result }

signed-strayed : (c : After-fall_mute) → IsSigned c.args.self.now (post-strayed c)
signed-strayed c =
    signed-post c.args.self.now c.args.bytes c.deref.result.now c.in_ok-signature.signature.items c.of.result
    (c.deref.ensures.value ∙ c.items.ensures) c.of.ensures c.in_ok-signature.ensures.signed c.in_ok-signature.ensures.valid c.requires.short

so-strayed : (P : Machine → Type 0) (c : After-fall_mute) → P (strayed c.args.self.now (post-strayed c)) → P c.fall_mute.new.self
so-strayed P c so = strayed-so P c.args.self.now c.fall_mute.new.self (post-strayed c) c.sign.new.self c.in_ok-signature.ensures.spent
    c.fall_mute.ensures so

pub returns-else-is_content-clause-formed : goal.returns-else-is_content-clause-formed
returns-else-is_content-clause-formed c =
    so-strayed IsFormed c (strayed-formed c.args.self.now (post-strayed c) c.requires.formed c.requires.ready
    c.requires.speakable.to_be_asked (signed-strayed c))

pub returns-else-is_content-clause-sound : goal.returns-else-is_content-clause-sound
returns-else-is_content-clause-sound c =
    so-strayed IsSound c (strayed-sound c.args.self.now (post-strayed c) c.requires.formed c.requires.ready c.requires.speakable.to_be_asked
    (signed-strayed c))

pub returns-else-is_content-clause-going : goal.returns-else-is_content-clause-going
returns-else-is_content-clause-going c = so-strayed (λ (n : Machine). IsOpen n.ending) c c.requires.speakable.to_be_asked.going

pub returns-else-is_content-clause-handed : goal.returns-else-is_content-clause-handed
returns-else-is_content-clause-handed c = so-strayed (λ (n : Machine). n.handed ≡ c.args.self.now.handed) c refl

pub returns-else-is_content-clause-stands : goal.returns-else-is_content-clause-stands
returns-else-is_content-clause-stands c now start conf a s =
    let outside = told-reads c.args.self.now c.args.bytes c.deref-2.result.now c.is_of_grammar-is_content.result c.requires.formed
    (c.deref-2.ensures.value ∙ c.items-2.ensures) c.is_of_grammar-is_content.ensures.value
    ∙ c.if-is_content.false in
    so-strayed (λ (n : Machine). StandsFor now start conf (actor_behind_answer conf a (Says c.args.bytes)) (holdings_of n)) c
    (strayed-stands now start conf a c.args.self.now (post-strayed c) c.requires.formed c.requires.ready c.requires.speakable.to_be_asked
    (signed-strayed c) outside s)
