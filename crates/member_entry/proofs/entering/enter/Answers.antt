use Rattle.std.proofs.Common.{◌∙◌, refl, sym, ap, length, arith}
use Rattle.std.proofs.lemmas.List.{length-map}
use Rattle.std.proofs.lemmas.Result.{err_from_is_err_and}
use Rattle.bulk_descriptor.specs.declared.making.TheConstants.{MESSAGE_LIMIT}
use Rattle.group_roster.specs.Given.{roster_of}
use Rattle.offline_commands.specs.declared.commands.TheConstants.{ROSTER_LIMIT}
use Rattle.member_entry.specs.Entering.{MemberWords}
use Rattle.member_entry.proofs.Opening.{rose_over}
use Rattle.member_entry.proofs.Entered.{all_counted, decoded, entered, has_read, key_unopened, message_unread, not_counted, not_member, opens_named, read_later, roster_refused, roster_unread, shown_later, uncounted, unread_named}
use Rattle.member_entry.proofs.entering.enter.Goals as goal

pub returns-in_err-bytes-clause-entered : goal.returns-in_err-bytes-clause-entered
returns-in_err-bytes-clause-entered g c =
    let p = err_from_is_err_and c.from_residual.result c.from_residual.ensures.1 in
    rw (p.1, p.2) (roster_unread _ _ _ _
    (record { files_kept = c.in_err-bytes.ensures.kept; files_count = c.in_err-bytes.ensures.no_fall; untouched = record { told = refl; count = refl } })
    (unread_named _ _ _ ROSTER_LIMIT _ _ (ap (λ (w : MemberWords). w.roster) c.command.view_is) c.in_err-bytes.ensures.answer))

pub returns-in_err-roster-clause-entered : goal.returns-in_err-roster-clause-entered
returns-in_err-roster-clause-entered g c =
    let p = err_from_is_err_and c.from_residual-in_err-roster.result c.from_residual-in_err-roster.ensures.1 in
    rw (p.1, p.2) (roster_refused _ _ _ c.in_ok-bytes.bytes.items c.deref.result.now c.in_err-roster.field-0.0
    (record { files_kept = c.in_ok-bytes.ensures.kept; files_count = c.in_ok-bytes.ensures.no_fall; untouched = record { told = refl; count = refl } })
    (has_read _ _ _ ROSTER_LIMIT _ (ap (λ (w : MemberWords). w.roster) c.command.view_is) c.in_ok-bytes.ensures.shown c.in_ok-bytes.ensures.bounded) c.deref.ensures.value c.in_err-roster.ensures.exact)

pub returns-then-len-from-clause-entered : goal.returns-then-len-from-clause-entered
returns-then-len-from-clause-entered g c =
    uncounted _ _ _ (roster_of c.in_ok-roster.roster)
    (record { files_kept = c.in_ok-bytes.ensures.kept; files_count = c.in_ok-bytes.ensures.no_fall; untouched = record { told = refl; count = refl } })
    (record { bytes = c.in_ok-bytes.bytes.items; file = (has_read _ _ _ ROSTER_LIMIT _ (ap (λ (w : MemberWords). w.roster) c.command.view_is) c.in_ok-bytes.ensures.shown c.in_ok-bytes.ensures.bounded); decoded = decoded _ _ _ c.deref.ensures.value c.in_ok-roster.ensures.exact })
    (not_counted _ _ _ _ (c.len.ensures ∙ c.command.inside.addresses.ok.0 ∙ sym (length-map _ _) ∙ ap (λ (w : MemberWords). length w.addresses) c.command.view_is)
    (c.from.ensures ∙ c.members.ensures) c.if-len-from.true)

pub returns-in_err-message-clause-entered : goal.returns-in_err-message-clause-entered
returns-in_err-message-clause-entered g c =
    let p = err_from_is_err_and c.from_residual-in_err-message.result c.from_residual-in_err-message.ensures.1 in
    rw (p.1, p.2) (message_unread _ _ _ (roster_of c.in_ok-roster.roster) _ _
    (record { files_kept = (c.in_err-message.ensures.kept ∙ c.in_ok-bytes.ensures.kept); files_count = (omega (arith, c.in_ok-bytes.ensures.no_fall, c.in_err-message.ensures.no_fall)); untouched = record { told = refl; count = refl } })
    (record { bytes = c.in_ok-bytes.bytes.items; file = (has_read _ _ _ ROSTER_LIMIT _ (ap (λ (w : MemberWords). w.roster) c.command.view_is) c.in_ok-bytes.ensures.shown c.in_ok-bytes.ensures.bounded); decoded = decoded _ _ _ c.deref.ensures.value c.in_ok-roster.ensures.exact })
    (all_counted _ _ _ _ (c.len.ensures ∙ c.command.inside.addresses.ok.0 ∙ sym (length-map _ _) ∙ ap (λ (w : MemberWords). length w.addresses) c.command.view_is)
    (c.from.ensures ∙ c.members.ensures) c.if-len-from.false)
    (rose_over _ _ _ c.in_ok-bytes.ensures.no_fall)
    (unread_named _ _ _ MESSAGE_LIMIT _ _ (ap (λ (w : MemberWords). w.message) c.command.view_is)
    (read_later _ _ _ MESSAGE_LIMIT _ _ c.in_ok-bytes.ensures.kept c.in_err-message.ensures.answer)))

pub returns-in_err-key-clause-entered : goal.returns-in_err-key-clause-entered
returns-in_err-key-clause-entered g c =
    let p = err_from_is_err_and c.from_residual-in_err-key.result c.from_residual-in_err-key.ensures.1 in
    rw (p.1, p.2) (key_unopened _ _ _ (roster_of c.in_ok-roster.roster) c.in_ok-message.message.items _ (c.in_ok-message.ensures.kept ∙ c.in_ok-bytes.ensures.kept)
    (omega (arith, c.in_ok-bytes.ensures.no_fall, c.in_ok-message.ensures.no_fall)) (record {
      has = (record { bytes = c.in_ok-bytes.bytes.items; file = (has_read _ _ _ ROSTER_LIMIT _ (ap (λ (w : MemberWords). w.roster) c.command.view_is) c.in_ok-bytes.ensures.shown c.in_ok-bytes.ensures.bounded); decoded = decoded _ _ _ c.deref.ensures.value c.in_ok-roster.ensures.exact });
      counts = (all_counted _ _ _ _ (c.len.ensures ∙ c.command.inside.addresses.ok.0 ∙ sym (length-map _ _) ∙ ap (λ (w : MemberWords). length w.addresses) c.command.view_is)
          (c.from.ensures ∙ c.members.ensures) c.if-len-from.false);
      text = has_read _ _ _ MESSAGE_LIMIT _ (ap (λ (w : MemberWords). w.message) c.command.view_is) (shown_later _ _ _ _ c.in_ok-bytes.ensures.kept c.in_ok-message.ensures.shown) c.in_ok-message.ensures.bounded;
    }) (opens_named _ _ _ _ (ap (λ (w : MemberWords). w.key) c.command.view_is) c.in_err-key.ensures.opened))

pub returns-clause-entered : goal.returns-clause-entered
returns-clause-entered g c =
    not_member _ _ _ (roster_of c.in_ok-roster.roster) c.in_ok-message.message.items c.in_ok-key.key c.public.result c.bytes.result
    (c.in_ok-message.ensures.kept ∙ c.in_ok-bytes.ensures.kept) (omega (arith, c.in_ok-bytes.ensures.no_fall, c.in_ok-message.ensures.no_fall))
    (record {
      has = (record { bytes = c.in_ok-bytes.bytes.items; file = (has_read _ _ _ ROSTER_LIMIT _ (ap (λ (w : MemberWords). w.roster) c.command.view_is) c.in_ok-bytes.ensures.shown c.in_ok-bytes.ensures.bounded); decoded = decoded _ _ _ c.deref.ensures.value c.in_ok-roster.ensures.exact });
      counts = (all_counted _ _ _ _ (c.len.ensures ∙ c.command.inside.addresses.ok.0 ∙ sym (length-map _ _) ∙ ap (λ (w : MemberWords). length w.addresses) c.command.view_is)
          (c.from.ensures ∙ c.members.ensures) c.if-len-from.false);
      text = has_read _ _ _ MESSAGE_LIMIT _ (ap (λ (w : MemberWords). w.message) c.command.view_is) (shown_later _ _ _ _ c.in_ok-bytes.ensures.kept c.in_ok-message.ensures.shown) c.in_ok-message.ensures.bounded;
    })
    (opens_named _ _ _ _ (ap (λ (w : MemberWords). w.key) c.command.view_is) c.in_ok-key.ensures.opened) c.public.ensures c.bytes.ensures.value
    (sym c.number_in.ensures ∙ c.in-None.is)

pub returns-in-Some-clause-entered : goal.returns-in-Some-clause-entered
returns-in-Some-clause-entered g c =
    entered _ _ _ _ c.public.result c.bytes.result
    (c.in_ok-message.ensures.kept ∙ c.in_ok-bytes.ensures.kept) (omega (arith, c.in_ok-bytes.ensures.no_fall, c.in_ok-message.ensures.no_fall))
    (record {
      has = (record { bytes = c.in_ok-bytes.bytes.items; file = (has_read _ _ _ ROSTER_LIMIT _ (ap (λ (w : MemberWords). w.roster) c.command.view_is) c.in_ok-bytes.ensures.shown c.in_ok-bytes.ensures.bounded); decoded = decoded _ _ _ c.deref.ensures.value c.in_ok-roster.ensures.exact });
      counts = (all_counted _ _ _ _ (c.len.ensures ∙ c.command.inside.addresses.ok.0 ∙ sym (length-map _ _) ∙ ap (λ (w : MemberWords). length w.addresses) c.command.view_is)
          (c.from.ensures ∙ c.members.ensures) c.if-len-from.false);
      text = has_read _ _ _ MESSAGE_LIMIT _ (ap (λ (w : MemberWords). w.message) c.command.view_is) (shown_later _ _ _ _ c.in_ok-bytes.ensures.kept c.in_ok-message.ensures.shown) c.in_ok-message.ensures.bounded;
    })
    (opens_named _ _ _ _ (ap (λ (w : MemberWords). w.key) c.command.view_is) c.in_ok-key.ensures.opened) c.public.ensures c.bytes.ensures.value
    (sym c.number_in.ensures ∙ c.in-Some.is)
