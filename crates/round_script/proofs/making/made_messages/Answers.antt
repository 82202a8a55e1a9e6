use Rattle.std.proofs.Common.{◌∙◌}
use Rattle.round_script.specs.Made.{made_message}
use Rattle.round_script.proofs.MadeLemmas.{messages_more}
use Rattle.round_script.proofs.making.made_messages.Goals as goal

pub loop-i-preserved : goal.loop-i-preserved
loop-i-preserved c =
    messages_more (made_message c.args.number c.args.bytes) c.loop-i.messages.items _ c.loop-i.i _ c.loop-i.invariant
    (c.of.ensures ∙ c.in_ok-message.ensures) c.in_ok-push.ensures.items
