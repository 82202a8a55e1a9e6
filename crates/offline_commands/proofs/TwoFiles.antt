-- How the answers of the steps of `judge` and of `show` go together, whatever reads the roster, looks at the second
-- file and tells of it.
use Rattle.std.proofs.Common.{◌≡◌, inl, inr, refl, sym, ◌∙◌, ap, ℕ, ◌≤◌, List, Option, Result, Ok, Err, subst, arith}
use Rattle.offline_commands.specs.declared.commands.TheConstants.{ROSTER_LIMIT}
use Rattle.offline_commands.specs.declared.status.Status.{Status}
use Rattle.offline_commands.specs.declared.status.Status.TheVariants.{OutOfMemory}
use Rattle.transcript_form.specs.Refusals.{Failure}
use Rattle.transcript_form.specs.declared.refusal.Refused.{Refused}
use Rattle.transcript_form.specs.declared.refusal.Refused.TheVariants.{Check, Memory as JudgeMemory}
use Rattle.group_roster.specs.declared.refusal.RosterRefusal.{RosterRefusal}
use Rattle.group_roster.specs.declared.refusal.RosterRefusal.TheVariants.{Bad, Memory as RosterMemory}
use Rattle.outside.specs.Faults.{Rose}
use Rattle.offline_commands.specs.Outside.{Held, Shows}
use Rattle.offline_commands.specs.Refusals.{RefusesRoster, RefusesTranscript, roster_status, judge_status}
use Rattle.offline_commands.specs.Outcome.{Yields, within, or_bad_roster, or_refused}
use Rattle.wire_core.specs.Answers.{◌>>=◌}
use Rattle.offline_commands.proofs.Reading.{some_file}

-- a file was read, or why not
abbrev pub Reads : Type 0 → Option Held → List ℕ → ℕ → Result (List ℕ) Status → Type 0
Reads fault told name limit answer = (file : Option (List ℕ)) × Shows told name file × Yields fault (within limit file) answer

-- a command over any reader of rosters, any judge of a second file of at most this many bytes, and any line of what passes
abbrev pub outcome_by : (V A : Type 0) → ℕ → (A → List ℕ) → (List ℕ → Result V (ℕ × ℕ)) → (V → List ℕ → Result A Failure)
    → Option (List ℕ) → Option (List ℕ) → Result (List ℕ) Status
outcome_by V A limit line read_roster judge_bytes roster_file second_file =
    within ROSTER_LIMIT roster_file >>= λ bytes.
    or_bad_roster (read_roster bytes) >>= λ roster.
    within limit second_file >>= λ read.
    or_refused line (judge_bytes roster read)

-- a fault of the second call is one of both
pub rose_earlier : (first second third : ℕ) → first ≤ second → Rose second third → Rose first third
rose_earlier first second third le rose = omega arith

-- a read that gave bytes
record HasFile (told : Option Held) (name : List ℕ) (limit : ℕ) (bytes : List ℕ) : Type 0 where
  file : Option (List ℕ)
  shows : Shows told name file
  is : within limit file ≡ Ok bytes

has_file : (fault : Type 0) (told : Option Held) (name : List ℕ) (limit : ℕ) (bytes : List ℕ) → Reads fault told name limit (Ok bytes)
    → HasFile told name limit bytes
has_file fault told name limit bytes (file, shows, inl is) = record { file = file; shows = shows; is = sym is }
has_file fault told name limit bytes (file, shows, inr (inl is)) = cc
has_file fault told name limit bytes (file, shows, inr (inr (is, rose))) = cc

module _ (V A : Type 0) (limit : ℕ) (line : A → List ℕ) (read_roster : List ℕ → Result V (ℕ × ℕ))
    (judge_bytes : V → List ℕ → Result A Failure) where
  -- the whole command has this answer
  abbrev pub Judges : Type 0 → Option Held → List ℕ → List ℕ → Result (List ℕ) Status → Type 0
  Judges fault told roster transcript answer =
      (roster_file transcript_file : Option (List ℕ)) × Shows told roster roster_file × Shows told transcript transcript_file
      × Yields fault (outcome_by V A limit line read_roster judge_bytes roster_file transcript_file) answer

  -- memory was wanting
  pub no_memory : (fault : Type 0) (told : Option Held) (roster transcript : List ℕ) → Judges fault told roster transcript (Err OutOfMemory)
  no_memory fault told roster transcript =
      let first = some_file told roster in let second = some_file told transcript in
      (first.0, second.0, first.1, second.1, inr (inl refl))

  -- the roster file could not be read
  pub roster_unread : (fault : Type 0) (told : Option Held) (roster transcript : List ℕ) (status : Status)
      → Reads fault told roster ROSTER_LIMIT (Err status) → Judges fault told roster transcript (Err status)
  roster_unread fault told roster transcript status (file, shows, inl is) =
      let second = some_file told transcript in
      let e : outcome_by V A limit line read_roster judge_bytes file second.0 ≡ Err status = rw (sym is) in
      (file, second.0, shows, second.1, inl (sym e))
  roster_unread fault told roster transcript status (file, shows, inr others) =
      let second = some_file told transcript in (file, second.0, shows, second.1, inr others)

  -- after the roster file was read
  at_roster : (file second : Option (List ℕ)) (bytes : List ℕ) → within ROSTER_LIMIT file ≡ Ok bytes
      → outcome_by V A limit line read_roster judge_bytes file second ≡ (or_bad_roster (read_roster bytes) >>= λ value.
      within limit second >>= λ read. or_refused line (judge_bytes value read))
  at_roster file second bytes is = rw is

  -- after the roster was decoded
  at_transcript : (file second : Option (List ℕ)) (bytes : List ℕ) (value : V) → within ROSTER_LIMIT file ≡ Ok bytes
      → read_roster bytes ≡ Ok value
      → outcome_by V A limit line read_roster judge_bytes file second ≡
      (within limit second >>= λ read. or_refused line (judge_bytes value read))
  at_transcript file second bytes value is decoded = at_roster file second bytes is ∙ (rw decoded)

  -- after the transcript was read
  at_judge : (file second : Option (List ℕ)) (bytes read : List ℕ) (value : V) → within ROSTER_LIMIT file ≡ Ok bytes
      → read_roster bytes ≡ Ok value → within limit second ≡ Ok read
      → outcome_by V A limit line read_roster judge_bytes file second ≡ or_refused line (judge_bytes value read)
  at_judge file second bytes read value is decoded is' = at_transcript file second bytes value is decoded ∙ (rw is')

  -- the roster file is outside the grammar
  pub roster_refused : (fault fault' : Type 0) (told : Option Held) (roster transcript bytes bytes' : List ℕ) (refusal : RosterRefusal)
      → bytes' ≡ bytes → Reads fault' told roster ROSTER_LIMIT (Ok bytes) → RefusesRoster (read_roster bytes') refusal
      → Judges fault told roster transcript (Err (roster_status refusal))
  roster_refused fault fault' told roster transcript bytes bytes' (Bad at rule) e reads refuses =
      let first = has_file fault' told roster ROSTER_LIMIT bytes reads in
      let second = some_file told transcript in
      let refuses' : read_roster bytes ≡ Err (at, rule) = ap read_roster (sym e) ∙ refuses in
      let is : outcome_by V A limit line read_roster judge_bytes first.file second.0 ≡ Err (roster_status (Bad at rule)) =
      at_roster first.file second.0 bytes first.is ∙ (rw refuses') in
      (first.file, second.0, first.shows, second.1, inl (sym is))
  roster_refused fault fault' told roster transcript bytes bytes' RosterMemory e reads refuses = no_memory fault told roster transcript

  -- the transcript could not be read
  pub transcript_unread : (fault fault' fault'' : Type 0) (told told' : Option Held) (roster transcript bytes bytes' : List ℕ)
      (value : V) (status : Status) → (fault'' → fault) → told' ≡ told → bytes' ≡ bytes
      → Reads fault' told roster ROSTER_LIMIT (Ok bytes) → read_roster bytes' ≡ Ok value → Reads fault'' told' transcript limit (Err status)
      → Judges fault told roster transcript (Err status)
  transcript_unread fault fault' fault'' told told' roster transcript bytes bytes' value status more same e reads decoded
      (second, shows, yields) =
      let first = has_file fault' told roster ROSTER_LIMIT bytes reads in
      let shows' : Shows told transcript second = rw same at shows in
      let decoded' : read_roster bytes ≡ Ok value = ap read_roster (sym e) ∙ decoded in (
        first.file,
        second,
        first.shows,
        shows',
        elim yields [
          | inl is ↦ (let is' : outcome_by V A limit line read_roster judge_bytes first.file second ≡ Err status =
              at_transcript first.file second bytes value first.is decoded' ∙ (rw (sym is)) in inl (sym is'))
          | inr others ↦ inr (elim others [ inl memory ↦ inl memory | inr failed ↦ inr (failed.0, more failed.1) ])
        ],
      )

  -- the judge refuses the transcript
  pub judge_refused : (fault fault' fault'' : Type 0) (told told' : Option Held) (roster transcript bytes bytes' read read' : List ℕ)
      (value : V) (refusal : Refused) → told' ≡ told → bytes' ≡ bytes → read' ≡ read
      → Reads fault' told roster ROSTER_LIMIT (Ok bytes) → read_roster bytes' ≡ Ok value → Reads fault'' told' transcript limit (Ok read)
      → RefusesTranscript (judge_bytes value read') refusal
      → Judges fault told roster transcript (Err (judge_status refusal))
  judge_refused fault fault' fault'' told told' roster transcript bytes bytes' read read' value (Check check post at) same e e' reads
      decoded reads' refuses =
      let first = has_file fault' told roster ROSTER_LIMIT bytes reads in
      let second = has_file fault'' told' transcript limit read reads' in
      let At : Option Held → Type 0 = λ t. Shows t transcript second.file in
      let shows' : Shows told transcript second.file = subst At same second.shows in
      let decoded' : read_roster bytes ≡ Ok value = ap read_roster (sym e) ∙ decoded in
      let refuses' : judge_bytes value read ≡ Err (record { check = check; post = post; at = at }) = ap (judge_bytes value) (sym e')
      ∙ refuses in
      let is : outcome_by V A limit line read_roster judge_bytes first.file second.file ≡ Err (judge_status (Check check post at)) =
      at_judge first.file second.file bytes read value first.is decoded' second.is ∙ (rw refuses') in
      (first.file, second.file, first.shows, shows', inl (sym is))
  judge_refused fault fault' fault'' told told' roster transcript bytes bytes' read read' value JudgeMemory same e e' reads decoded reads'
      refuses =
      no_memory fault told roster transcript

  -- the judge accepts the transcript
  pub judge_accepted : (fault fault' fault'' : Type 0) (told told' : Option Held) (roster transcript bytes bytes' read read' : List ℕ)
      (value : V) (accepted : A) (text : List ℕ) → told' ≡ told → bytes' ≡ bytes → read' ≡ read
      → Reads fault' told roster ROSTER_LIMIT (Ok bytes) → read_roster bytes' ≡ Ok value → Reads fault'' told' transcript limit (Ok read)
      → judge_bytes value read' ≡ Ok accepted → text ≡ line accepted
      → Judges fault told roster transcript (Ok text)
  judge_accepted fault fault' fault'' told told' roster transcript bytes bytes' read read' value accepted text same e e' reads decoded
      reads' accepts prints =
      let first = has_file fault' told roster ROSTER_LIMIT bytes reads in
      let second = has_file fault'' told' transcript limit read reads' in
      let At : Option Held → Type 0 = λ t. Shows t transcript second.file in
      let shows' : Shows told transcript second.file = subst At same second.shows in
      let decoded' : read_roster bytes ≡ Ok value = ap read_roster (sym e) ∙ decoded in
      let accepts' : judge_bytes value read ≡ Ok accepted = ap (judge_bytes value) (sym e') ∙ accepts in
      let is : outcome_by V A limit line read_roster judge_bytes first.file second.file ≡ Ok text =
      at_judge first.file second.file bytes read value first.is decoded' second.is ∙ (rw (accepts', prints)) in
      (first.file, second.file, first.shows, shows', inl (sym is))
