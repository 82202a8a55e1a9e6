use Rattle.round_spec.proofs.Strings.{kept_is_read, run_has_strings, transcript_has_strings}
use Rattle.round_spec.proofs.laws.string_laws.Goals as goal

pub returns-clause-run : goal.returns-clause-run
returns-clause-run c = run_has_strings

pub returns-clause-transcript : goal.returns-clause-transcript
returns-clause-transcript c = transcript_has_strings

pub returns-clause-kept : goal.returns-clause-kept
returns-clause-kept c = kept_is_read
