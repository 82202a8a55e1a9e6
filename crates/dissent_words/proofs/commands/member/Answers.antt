use Rattle.std.proofs.Common.{◌∙◌, ◌≡◌, ap, arith, length}
use Rattle.std.specs.Prelude.{string_bytes}
use Rattle.dissent_words.specs.Request.{texts}
use Rattle.dissent_words.proofs.Requests.{member_read, seen}
use Rattle.dissent_words.proofs.commands.member.Goals as goal

pub returns : goal.returns
returns c =
    let long : length c.as_slice.result.now ≡ 6 = omega (arith, c.in-len6.len_at_least, c.in-len6.len_below) in
    member_read c.args.given.now.values.items c.as_slice.result.now (seen c.args.given.now.addresses.items)
    (string_bytes c.in_ok-roster.roster) (string_bytes c.in_ok-key.key) (string_bytes c.in_ok-message.message) (string_bytes c.in_ok-transcript.transcript)
    c.in-Some.round c.in-Some-read_number.wait (texts c.in_ok-addresses.addresses.items)
    c.as_slice.ensures.value long c.in_ok-roster.ensures.ok c.in_ok-key.ensures.ok c.in-Some.ensures c.in_ok-message.ensures.ok c.in_ok-transcript.ensures.ok
    c.in-Some-read_number.ensures (c.in_ok-addresses.ensures ∙ ap seen c.as_slice-2.ensures.value)
