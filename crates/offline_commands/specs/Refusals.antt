-- Which refusals the readers of words, of rosters and of scripts and the judge answer. Want of memory may come at any time.
use Rattle.std.specs.Prelude.{ℕ, Result}
use Rattle.wire_core.specs.Answers.{IsFault}
use Rattle.group_roster.specs.declared.refusal.RosterRefusal.{RosterRefusal}
use Rattle.group_roster.specs.declared.refusal.RosterRefusal.TheVariants.{Bad, Memory as RosterMemory}
use Rattle.transcript_form.specs.declared.refusal.Refused.{Refused}
use Rattle.transcript_form.specs.declared.refusal.Refused.TheVariants.{Check, Memory as JudgeMemory}
use Rattle.transcript_form.specs.Refusals.{Failure}
use Rattle.group_roster.specs.Rules.{offence_told}
use Rattle.transcript_form.specs.Refusals.{failure_of_refusal}
use Rattle.round_script.specs.declared.refusal.ScriptRefusal.{ScriptRefusal}
use Rattle.round_script.specs.declared.refusal.ScriptRefusal.TheVariants.{BadLine, Memory as ScriptMemory}
use Rattle.round_script.specs.Lines.{bad_line}
use Rattle.dissent_words.specs.declared.refusal.WordsRefusal.{WordsRefusal}
use Rattle.dissent_words.specs.declared.refusal.WordsRefusal.TheVariants.{Usage as WordsUsage, Memory as WordsMemory}
use Rattle.offline_commands.specs.declared.status.Status.{Status}
use Rattle.offline_commands.specs.declared.status.Status.TheVariants.{Usage, BadRoster, BadScript, Refused as IsRefused, OutOfMemory}

-- the status that a refusal of words becomes
abbrev pub words_status : WordsRefusal → Status
words_status WordsUsage = Usage
words_status WordsMemory = OutOfMemory

-- the status that a refusal of a roster file becomes
abbrev pub roster_status : RosterRefusal → Status
roster_status (Bad at rule) = BadRoster at rule
roster_status RosterMemory = OutOfMemory

-- the status that a refusal of a transcript becomes
abbrev pub judge_status : Refused → Status
judge_status (Check check post at) = IsRefused check post at
judge_status JudgeMemory = OutOfMemory

-- the status that a refusal of a script becomes
abbrev pub script_status : ScriptRefusal → Status
script_status (BadLine line) = BadScript line
script_status ScriptMemory = OutOfMemory

-- a refusal of a roster file names the first offence
abbrev pub RefusesRoster : {V : Type 0} → Result V (ℕ × ℕ) → RosterRefusal → Type 0
RefusesRoster answer refusal = IsFault (offence_told refusal) answer

-- a refusal of a transcript names the first check that fails
abbrev pub RefusesTranscript : {V : Type 0} → Result V Failure → Refused → Type 0
RefusesTranscript answer refusal = IsFault (failure_of_refusal refusal) answer

-- a refusal of a script names its first bad line
abbrev pub RefusesScript : {V : Type 0} → Result V ℕ → ScriptRefusal → Type 0
RefusesScript answer refusal = IsFault (bad_line refusal) answer
