use Rattle.std.proofs.Common.{◌∙◌, ap₂}
use Rattle.clap.specs.Simple.{with_rule}
use Rattle.dissent_words.proofs.Reading.{one_more}
use Rattle.dissent_words.proofs.clap_form.clap_command.Goals as goal

pub loop-option-preserved : goal.loop-option-preserved
loop-option-preserved c =
    c.in_ok-command.ensures.shape c.option_arg.ensures.local ∙ ap₂ with_rule c.loop-option.invariant c.option_arg.ensures.rule
    ∙ one_more c.args.options.now c.loop-option.option-index _ c.loop-option-test.true
