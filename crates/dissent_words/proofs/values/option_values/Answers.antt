use Rattle.std.proofs.Common.{[]}
use Rattle.clap.specs.Matches.{found_of}
use Rattle.dissent_words.proofs.Reading.{none_there, one_read}
use Rattle.dissent_words.proofs.values.option_values.Goals as goal

pub returns-in-None : goal.returns-in-None
returns-in-None c = λ _. none_there (found_of c.args.matches.now) c.args.options.now c.loop-option.values.items c.loop-option.option-index
    (record { ref_ptr = (0, 0); now = [] }) c.loop-option-test.true c.in-None.ensures c.loop-option.invariant

pub loop-option-preserved : goal.loop-option-preserved
loop-option-preserved c = rw (c.in_ok-push-in-Some.ensures.items)
    (one_read (found_of c.args.matches.now) c.args.options.now c.loop-option.values.items c.loop-option.option-index
    (record { ref_ptr = (0, 0); now = [] }) c.in-Some.value c.loop-option-test.true c.in-Some.ensures c.loop-option.invariant)
