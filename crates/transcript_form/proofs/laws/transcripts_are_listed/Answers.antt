use Rattle.transcript_form.proofs.Transcripts.{listed_exactly}
use Rattle.transcript_form.proofs.laws.transcripts_are_listed.Goals as goal

pub returns : goal.returns
returns c = listed_exactly
