use Rattle.std.proofs.Common.{◌≡◌, Some, sym, ap, ◌∙◌, arith, length}
use Rattle.std.specs.Option.{option_map}
use Rattle.bulk_descriptor.specs.Descriptor.{descriptor_read}
use Rattle.bulk_descriptor.specs.Fields.{description_of}
use Rattle.bulk_descriptor.proofs.SpellingLemmas.{members_of-read}
use Rattle.bulk_descriptor.proofs.FittingLemmas.{pad_row-own, pad_row-other}
use Rattle.bulk_descriptor.proofs.CodeLemmas.{pad_row-unread, pad_row-unfound}
use Rattle.bulk_descriptor.proofs.pads.sent_pad.Goals as goal

pub returns-then-is_own : goal.returns-then-is_own
returns-then-is_own c =
    c.of.ensures
    ∙ c.in_ok-from_slice.ensures.items
    ∙ sym (pad_row-own c.args.n c.args.own.now c.args.own_pad.now c.args.member c.args.seed.now c.args.entry.now
    (sym c.is_own.ensures ∙ c.if-is_own.true))

pub returns-in_default : goal.returns-in_default
returns-in_default c =
    c.of-in_default.ensures
    ∙ c.new.ensures.items
    ∙ pad_row-unread c.args.n c.args.own.now c.args.own_pad.now c.args.member c.args.seed.now c.args.entry.now
    (sym c.is_own.ensures ∙ c.if-is_own.false) (sym c.in_ok-descriptor.ensures.value ∙ ap (option_map description_of) c.in_default.is)

pub my_pad-requires-clause-last : goal.my_pad-requires-clause-last
my_pad-requires-clause-last c =
    let d = c.in-Some.descriptor in
    let read : Some (description_of d) ≡ descriptor_read c.args.n c.args.entry.now = sym (ap (option_map description_of) c.in-Some.is)
    ∙ c.in_ok-descriptor.ensures.value in
    let members : length d.pad_hashes ≡ c.args.n = members_of-read c.args.n c.args.entry.now (description_of d) read in
    omega (arith, c.requires.last)

pub returns-in-Some-2 : goal.returns-in-Some-2
returns-in-Some-2 c =
    let d = c.in-Some.descriptor in
    let read : Some (description_of d) ≡ descriptor_read c.args.n c.args.entry.now = sym (ap (option_map description_of) c.in-Some.is)
    ∙ c.in_ok-descriptor.ensures.value in
    sym (pad_row-other c.args.n c.args.own.now c.args.own_pad.now c.args.member c.args.seed.now c.args.entry.now c.in-Some-2.pad
    (description_of d) (sym c.is_own.ensures ∙ c.if-is_own.false) (sym read)
    (sym c.in_ok-pad.ensures.value ∙ c.in-Some-2.is))

pub returns : goal.returns
returns c =
    let d = c.in-Some.descriptor in
    let read : Some (description_of d) ≡ descriptor_read c.args.n c.args.entry.now = sym (ap (option_map description_of) c.in-Some.is)
    ∙ c.in_ok-descriptor.ensures.value in
    c.of-in-None.ensures
    ∙ c.new-in-None.ensures.items
    ∙ pad_row-unfound c.args.n c.args.own.now c.args.own_pad.now c.args.member c.args.seed.now c.args.entry.now (description_of d)
    (sym c.is_own.ensures ∙ c.if-is_own.false) (sym read) (sym c.in_ok-pad.ensures.value ∙ c.in-None.is)
