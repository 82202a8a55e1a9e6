-- What the promises of each status follow from: an answer that was come to, and its printing.
use Rattle.std.proofs.Common.{◌≡◌, ◌≢◌, ◌⊎◌, [], ◌∷◌, inl, inr, refl, sym, ◌∙◌, ap, subst, ℕ, List, length, Option, Some, None, Result, Ok, Err, IsSomeAnd, IsSome, Bool, true, false, nat_lt, if◌then◌else◌}
use Rattle.std.specs.Prelude.{map, IfSome, option_map, option_and_then}
use Rattle.wire_core.specs.Answers.{◌>>=◌}
use Rattle.outside.specs.Changes.{Change, Failed}
use Rattle.crash_disk.specs.Names.{Names, StoodStays}
use Rattle.offline_commands.specs.Outside.{DiskTold, Held, Shows, IsMissing, AllOthersStay, Gains}
use Rattle.offline_commands.specs.Command.{Request, Judge, Show, Keygen, Roster as MakeRoster, Group, Make, written_names, offline_request}
use Rattle.offline_commands.specs.Outcome.{Input, inputs_of, Yields, YieldsOr, YieldsBy, Tells, MayTell, Stood, known_files, Misses, within, or_bad_roster, or_refused, judge_outcome, show_outcome, keygen_outcome, outcome_of, or_bad_script, accepted_line}
use Rattle.group_roster.specs.Toml.{toml_read}
use Rattle.offline_commands.specs.Delivery.{Delivers, status_of, text_of}
use Rattle.offline_commands.specs.Promise.{IsRosterRun, IsScriptRun, FilesKept, IsUntouched, Asked, request_in, MakesKey, AnswersRequest, Answers, expected_of, expected_in, FaultOf, IsStatusOf, IsWhole, FilesConvict, FilesShow, IsMade, BearsOutRequest, BearsOut, OnOutput, PrintsOutput, IsAnswered, IsPrinted}
use Rattle.lm_ots.specs.declared.types.OtsType.{OtsType}
use Rattle.lms_tree.specs.declared.secrets.MadeHeight.{MadeHeight}
use Rattle.std.proofs.Common.{◌≤◌, arith, lit<}
use Rattle.offline_commands.specs.declared.commands.TheConstants.{ROSTER_LIMIT, TOML_LIMIT, SCRIPT_LIMIT, TRANSCRIPT_LIMIT, POST_FILE_LIMIT}
use Rattle.offline_commands.specs.declared.status.Status.{Status}
use Rattle.offline_commands.specs.declared.status.Status.TheVariants.{Done, Usage, Refused, ReadFault, WriteFault, DiskFault, BadRoster, TooLong, BadScript, OutOfMemory}
use Rattle.judge_core.specs.declared.judging.Accepted.{Accepted}
use Rattle.transcript_form.specs.Refusals.{Failure}
use Rattle.group_roster.specs.Roster.{Roster, IsRosterFile, roster_spelling}
use Rattle.group_roster.specs.Binary.{roster_read}
use Rattle.phase_message.specs.declared.content.Content.{Content}
use Rattle.round_script.specs.Read.{script_read}
use Rattle.judge_core.specs.Checks.{printed_judgement_of}
use Rattle.signed_post.specs.Admission.{IsPostFile}
use Rattle.offline_commands.specs.Show.{file_checked, shown_line}
use Rattle.offline_commands.proofs.TwoFiles.{outcome_by}
use Rattle.offline_commands.proofs.Reading.{some_file}
use Rattle.dissent_words.specs.Request.{Request as AnyRequest, for_judge, for_show, for_keygen, for_roster, for_group}
use Rattle.dissent_words.specs.Forms.{requested as any_requested}
use Rattle.dissent_words.specs.declared.refusal.WordsRefusal.{WordsRefusal}
use Rattle.dissent_words.specs.declared.refusal.WordsRefusal.TheVariants.{Usage as WordsUsage, Memory as WordsMemory}
use Rattle.group_roster.specs.declared.refusal.RosterRefusal.{RosterRefusal}
use Rattle.group_roster.specs.declared.refusal.RosterRefusal.TheVariants.{Bad, Memory as RosterMemory}
use Rattle.transcript_form.specs.declared.refusal.Refused.{Refused as JudgeRefusal}
use Rattle.transcript_form.specs.declared.refusal.Refused.TheVariants.{Check, Memory as JudgeMemory}
use Rattle.offline_commands.specs.Refusals.{roster_status, judge_status, words_status}
use Rattle.conviction.specs.Accepts.{Accepts}
use Rattle.conviction.specs.Framing.{HasNoHonestRun, NoRunsSaid}

-- The statuses that a command may be refused with.

bind-err : {A B : Type 0} (first : Result A Status) (next : A → Result B Status) (status : Status) → (first >>= next) ≡ Err status
    → (first ≡ Err status) ⊎ ((value : A) × (next value ≡ Err status))
bind-err (Ok value) next status h = inr (value, h)
bind-err (Err refusal) next status h = let e : refusal ≡ status = cc in inl (ap Err e)

long_or_not : (long : Bool) (limit : ℕ) (bytes : List ℕ) (P : Status → Type 0) → P (TooLong limit) → (status : Status)
    → (if long then Err (TooLong limit) else Ok bytes) ≡ Err status → P status
long_or_not true limit bytes P here status h = let e : TooLong limit ≡ status = cc in subst P e here
long_or_not false limit bytes P here status h = cc

within_cases : (limit : ℕ) (file : Option (List ℕ)) (P : Status → Type 0) → (file ≡ None → P ReadFault) → P (TooLong limit)
    → (status : Status) → within limit file ≡ Err status → P status
within_cases limit None P missing long status h = let e : ReadFault ≡ status = cc in subst P e (missing refl)
within_cases limit (Some bytes) P missing long status h = long_or_not (nat_lt limit (length bytes)) limit bytes P long status h

bad_cases : {V : Type 0} (answer : Result V (ℕ × ℕ)) (P : Status → Type 0) → ((at rule : ℕ) → P (BadRoster at rule)) → (status : Status)
    → or_bad_roster answer ≡ Err status → P status
bad_cases (Ok value) P bad status h = cc
bad_cases (Err offence) P bad status h = let e : BadRoster offence.0 offence.1 ≡ status = cc in subst P e (bad offence.0 offence.1)

script_cases : {V : Type 0} (answer : Result V ℕ) (P : Status → Type 0) → ((line : ℕ) → P (BadScript line)) → (status : Status)
    → or_bad_script answer ≡ Err status → P status
script_cases (Ok value) P bad status h = cc
script_cases (Err line) P bad status h = let e : BadScript line ≡ status = cc in subst P e (bad line)

refused_cases : {A : Type 0} (line : A → List ℕ) (answer : Result A Failure) (P : Status → Type 0)
    → ((check post at : ℕ) → P (Refused check post at))
    → (status : Status) → or_refused line answer ≡ Err status → P status
refused_cases line (Ok passed) P refused status h = cc
refused_cases line (Err at) P refused status h =
    let e : Refused at.check at.post at.at ≡ status = cc in subst P e (refused at.check at.post at.at)

outcome_cases : (V A : Type 0) (most : ℕ) (line : A → List ℕ) (read_roster : List ℕ → Result V (ℕ × ℕ))
    (judge_bytes : V → List ℕ → Result A Failure)
    (file second : Option (List ℕ)) (P : Status → Type 0) → (file ≡ None → P ReadFault) → (second ≡ None → P ReadFault)
    → ((limit : ℕ) → P (TooLong limit)) → ((at rule : ℕ) → P (BadRoster at rule)) → ((check post at : ℕ) → P (Refused check post at))
    → (status : Status) → outcome_by V A most line read_roster judge_bytes file second ≡ Err status → P status
outcome_cases V A most line read_roster judge_bytes file second P missing missing' long bad refused status h =
    elim (bind-err (within ROSTER_LIMIT file) _ status h) [
      | inl e ↦ within_cases ROSTER_LIMIT file P missing (long ROSTER_LIMIT) status e
      | inr p ↦ elim (bind-err (or_bad_roster (read_roster p.0)) _ status p.1) [
        | inl e ↦ bad_cases (read_roster p.0) P bad status e
        | inr q ↦ elim (bind-err (within most second) _ status q.1) [
          | inl e ↦ within_cases most second P missing' (long most) status e
          | inr r ↦ refused_cases line (judge_bytes q.0 r.0) P refused status r.1
        ]
      ]
    ]

-- The status of an answer.

err_of : (answer : Result (List ℕ) Status) (status : Status) → status_of answer ≡ status → status ≢ Done → answer ≡ Err status
err_of (Ok output) status h other = absurd (other (sym h))
err_of (Err refusal) status h other = ap Err h

no_bytes : (file : Option (List ℕ)) → file ≡ None → IsSome file → ⊥
no_bytes None none some = cc
no_bytes (Some bytes) none some = cc

is_missing : (told : Option Held) (name : List ℕ) (file : Option (List ℕ)) → file ≡ None → Shows told name file → IsMissing told name
is_missing None name file none shows = absurd (no_bytes file none shows)
is_missing (Some held) name file none shows = shows ∙ none

-- ---- what stood at the names

stood_held : (held : Held) (inputs : List Input) (contents : List (Option (List ℕ))) → Stood (Some held) inputs contents
    → contents ≡ map (λ i. held i.name) inputs
stood_held held [] [] stood = refl
stood_held held [] (file ∷ files) stood = absurd stood
stood_held held (input ∷ inputs) [] stood = absurd stood
stood_held held (input ∷ inputs) (file ∷ files) (shows, stood) =
    let same : held input.name ≡ file = shows in
    let others : files ≡ map (λ i. held i.name) inputs = stood_held held inputs files stood in
    rw (same, ← others) refl

-- what stood is what is known to stand
stood_known : (told : Option Held) (inputs : List Input) (contents known : List (Option (List ℕ))) → Stood told inputs contents
    → known_files inputs told ≡ Some known → contents ≡ known
stood_known told [] [] known stood e = let same : [] ≡ known = cc in same
stood_known told [] (file ∷ files) known stood e = absurd stood
stood_known None (input ∷ inputs) contents known stood e = absurd cc
stood_known (Some held) (input ∷ inputs) contents known stood e =
    let same : map (λ i. held i.name) (input ∷ inputs) ≡ known = cc in stood_held held (input ∷ inputs) contents stood ∙ same

-- ---- the status and the output of an answer

told_status : (fault : Status → Type 0) (expected answer : Result (List ℕ) Status) (sink : Change (Option (List ℕ))) (status : Status)
    → YieldsBy fault expected answer → Delivers sink answer status → IsStatusOf expected fault (Failed sink) status
told_status fault expected answer sink status y (gained, gains, inl whole) = elim y [
  | inl e ↦ inl (whole.0 ∙ ap status_of e)
  | inr others ↦ elim others [
    | inl e ↦ inr (inl (whole.0 ∙ ap status_of e))
    | inr failure ↦ inr (inr (inl (subst fault (sym (whole.0 ∙ ap status_of failure.1)) failure.2)))
  ]
]
told_status fault expected answer sink status y (gained, gains, inr (inl unwritten)) = inr (inr (inr (unwritten.0, unwritten.1)))
told_status fault expected answer sink status y (gained, gains, inr (inr memory)) = inr (inl memory.0)

whole : (fault : Status → Type 0) (expected answer : Result (List ℕ) Status) (sink : Change (Option (List ℕ))) (status : Status)
    → YieldsBy fault expected answer → Delivers sink answer status → IsWhole fault sink status expected
whole fault (Err refusal) answer sink status y d = tt
whole fault (Ok output) answer sink status y (gained, gains, inl all) = λ no_fault no_write. elim y [
  | inl e ↦ (let P : List ℕ → Type 0 = λ text. Gains sink.before sink.now text in
      inl (all.0 ∙ ap status_of e, subst P (all.1 ∙ ap text_of e) gains))
  | inr others ↦ elim others [
    | inl e ↦ inr (all.0 ∙ ap status_of e)
    | inr failure ↦ absurd (no_fault failure.0 failure.2)
  ]
]
whole fault (Ok output) answer sink status y (gained, gains, inr (inl unwritten)) = λ no_fault no_write. absurd (no_write unwritten.1)
whole fault (Ok output) answer sink status y (gained, gains, inr (inr memory)) = λ no_fault no_write. inr memory.0

-- an answer to a request yields what is known of it
yields_known : (fresh : List ℕ) (files : Change (Option Held)) (disk : Change DiskTold) (request : Option Request)
    (answer expected : Result (List ℕ) Status) → AnswersRequest fresh files disk request answer
    → expected_of fresh files.before request ≡ Some expected → YieldsBy (FaultOf files disk request) expected answer
yields_known fresh files disk None answer expected (inl a) e = let same : Err Usage ≡ expected = cc in inl (a ∙ same)
yields_known fresh files disk None answer expected (inr a) e = inr (inl a)
yields_known fresh files disk (Some request) answer expected (contents, stood, y) e =
    by_known (known_files (inputs_of request) files.before) refl e
  where
    by_known : (known : Option (List (Option (List ℕ)))) → known_files (inputs_of request) files.before ≡ known
        → option_map (outcome_of fresh request) known ≡ Some expected → YieldsBy (FaultOf files disk (Some request)) expected answer
    by_known None k e = absurd cc
    by_known (Some known) k e =
        let same : contents ≡ known = stood_known files.before (inputs_of request) contents known stood k in
        let is : outcome_of fresh request known ≡ expected = cc in
        let P : Result (List ℕ) Status → Type 0 = λ r. YieldsBy (FaultOf files disk (Some request)) r answer in
        subst P (ap (outcome_of fresh request) same ∙ is) y

-- ---- the statuses of each command

-- the statuses that a command comes to over its files
outcome_refused : (fresh : List ℕ) (told : Option Held) (request : Request) (contents : List (Option (List ℕ))) (status : Status)
    (P : Status → Type 0) → (Misses told request → P ReadFault) → ((limit : ℕ) → P (TooLong limit))
    → ((at rule : ℕ) → P (BadRoster at rule)) → ((line : ℕ) → P (BadScript line))
    → ((check post at : ℕ) → P (Refused check post at)) → Stood told (inputs_of request) contents
    → outcome_of fresh request contents ≡ Err status → P status
outcome_refused fresh told (Judge roster transcript) (file ∷ second ∷ []) status P missing long bad script_bad refused (shows, (shows', done)) h =
    outcome_cases Roster Accepted TRANSCRIPT_LIMIT accepted_line roster_read printed_judgement_of file second P
    (λ none. missing (0, record { name = roster; limit = ROSTER_LIMIT }, lit< tt, refl, is_missing told roster file none shows))
    (λ none. missing (
      1,
      record { name = transcript; limit = TRANSCRIPT_LIMIT },
      lit< tt,
      refl,
      is_missing told transcript second none
          shows',
    )) long bad refused status h
outcome_refused fresh told (Judge roster transcript) [] status P missing long bad script_bad refused stood h = absurd stood
outcome_refused fresh told (Judge roster transcript) (file ∷ []) status P missing long bad script_bad refused stood h = absurd stood.1
outcome_refused fresh told (Judge roster transcript) (file ∷ second ∷ third ∷ more) status P missing long bad script_bad refused stood h = absurd
    stood.1.1
outcome_refused fresh told (Show roster round post) (file ∷ second ∷ []) status P missing long bad script_bad refused (shows, (shows', done)) h =
    outcome_cases Roster Content POST_FILE_LIMIT shown_line roster_read (file_checked round) file second P
    (λ none. missing (0, record { name = roster; limit = ROSTER_LIMIT }, lit< tt, refl, is_missing told roster file none shows))
    (λ none. missing (1, record { name = post; limit = POST_FILE_LIMIT }, lit< tt, refl, is_missing told post second none shows')) long bad
    refused status h
outcome_refused fresh told (Show roster round post) [] status P missing long bad script_bad refused stood h = absurd stood
outcome_refused fresh told (Show roster round post) (file ∷ []) status P missing long bad script_bad refused stood h = absurd stood.1
outcome_refused fresh told (Show roster round post) (file ∷ second ∷ third ∷ more) status P missing long bad script_bad refused stood h = absurd
    stood.1.1
outcome_refused fresh told (MakeRoster toml out) (file ∷ []) status P missing long bad script_bad refused (shows, done) h =
    elim (bind-err (within TOML_LIMIT file) _ status h) [
      | inl e ↦ within_cases TOML_LIMIT file P
          (λ none. missing (0, record { name = toml; limit = TOML_LIMIT }, lit< tt, refl, is_missing told toml file none shows))
          (long TOML_LIMIT) status e
      | inr p ↦ elim (bind-err (or_bad_roster (toml_read p.0)) _ status p.1) [
        | inl e ↦ bad_cases (toml_read p.0) P bad status e
        | inr q ↦ absurd (let e = q.1 in cc)
      ]
    ]
outcome_refused fresh told (MakeRoster toml out) [] status P missing long bad script_bad refused stood h = absurd stood
outcome_refused fresh told (MakeRoster toml out) (file ∷ second ∷ more) status P missing long bad script_bad refused stood h = absurd stood.1
outcome_refused fresh told (Keygen key height width) [] status P missing long bad script_bad refused stood h = absurd cc
outcome_refused fresh told (Keygen key height width) (file ∷ more) status P missing long bad script_bad refused stood h = absurd stood
outcome_refused fresh told (Group script roster transcript) (file ∷ []) status P missing long bad script_bad refused (shows, done) h =
    elim (bind-err (within SCRIPT_LIMIT file) _ status h) [
      | inl e ↦ within_cases SCRIPT_LIMIT file P
          (λ none. missing (0, record { name = script; limit = SCRIPT_LIMIT }, lit< tt, refl, is_missing told script file none shows))
          (long SCRIPT_LIMIT) status e
      | inr p ↦ elim (bind-err (or_bad_script (script_read p.0)) _ status p.1) [
        | inl e ↦ script_cases (script_read p.0) P script_bad status e
        | inr q ↦ absurd (let e = q.1 in cc)
      ]
    ]
outcome_refused fresh told (Group script roster transcript) [] status P missing long bad script_bad refused stood h = absurd stood
outcome_refused fresh told (Group script roster transcript) (file ∷ second ∷ more) status P missing long bad script_bad refused stood h = absurd
    stood.1
outcome_refused fresh told (Make number members size fault) [] status P missing long bad script_bad refused stood h = absurd cc
outcome_refused fresh told (Make number members size fault) (file ∷ more) status P missing long bad script_bad refused stood h = absurd stood

-- the faults that a command may tell
fault_told : (request : Request) (files_fault disk_fault : Type 0) (status : Status) (P : Status → Type 0) → (files_fault → P ReadFault)
    → (files_fault × (written_names (Some request) ≢ []) → P WriteFault) → (disk_fault → P DiskFault)
    → MayTell request files_fault disk_fault status → P status
fault_told (Judge roster transcript) files_fault disk_fault status P read write disk t = subst P (sym t.0) (read t.1)
fault_told (Show roster round post) files_fault disk_fault status P read write disk t = subst P (sym t.0) (read t.1)
fault_told (Keygen key height width) files_fault disk_fault status P read write disk t = subst P (sym t.0) (disk t.1)
fault_told (MakeRoster toml out) files_fault disk_fault status P read write disk (inl e, rose) = subst P (sym e) (read rose)
fault_told (MakeRoster toml out) files_fault disk_fault status P read write disk (inr e, rose) = subst P (sym e) (write (rose, λ none. cc))
fault_told (Group script roster transcript) files_fault disk_fault status P read write disk (inl e, rose) = subst P (sym e) (read rose)
fault_told (Group script roster transcript) files_fault disk_fault status P read write disk (inr e, rose) = subst P (sym e)
    (write (rose, λ none. cc))
fault_told (Make number members size fault) files_fault disk_fault status P read write disk none = absurd none

-- the statuses that an answer may be
answer_cases : (fresh : List ℕ) (files : Change (Option Held)) (disk : Change DiskTold) (request : Option Request) (status : Status)
    (P : Status → Type 0) → (request ≡ None → P Usage) → P OutOfMemory
    → (Failed files ⊎ IsSomeAnd request (Misses files.before) → P ReadFault)
    → (Failed files × (written_names request ≢ []) → P WriteFault) → (Failed disk → P DiskFault) → ((limit : ℕ) → P (TooLong limit))
    → ((at rule : ℕ) → P (BadRoster at rule)) → ((line : ℕ) → P (BadScript line)) → ((check post at : ℕ) → P (Refused check post at))
    → AnswersRequest fresh files disk request (Err status) → P status
answer_cases fresh files disk None status P usage memory read write disk_fails long bad script_bad refused (inl h) =
    let e : Usage ≡ status = cc in subst P e (usage refl)
answer_cases fresh files disk None status P usage memory read write disk_fails long bad script_bad refused (inr h) =
    let e : OutOfMemory ≡ status = cc in subst P e memory
answer_cases fresh files disk (Some request) status P usage memory read write disk_fails long bad script_bad refused (contents, stood, inl e) =
    outcome_refused fresh files.before request contents status P (λ missing. read (inr missing)) long bad script_bad refused stood (sym e)
answer_cases fresh files disk (Some request) status P usage memory read write disk_fails long bad script_bad refused (contents, stood, inr (inl e)) =
    let e' : OutOfMemory ≡ status = cc in subst P e' memory
answer_cases fresh files disk (Some request) status P usage memory read write disk_fails long bad script_bad refused
    (contents, stood, inr (inr (failed, e, t))) =
    let e' : failed ≡ status = cc in
    subst P e' (fault_told request (Failed files) (Failed disk) failed P (λ rose. read (inl rose)) write disk_fails t)

-- the answer that is printed whole, under its status
answer_at : (asked : Asked) (files : Change (Option Held)) (disk : Change DiskTold) (answer : Result (List ℕ) Status) (status : Status)
    → status_of answer ≡ status → status ≢ Done → Answers asked files disk answer → Answers asked files disk (Err status)
answer_at asked files disk answer status is other h =
    let P : Result (List ℕ) Status → Type 0 = λ a. Answers asked files disk a in subst P (err_of answer status is other) h

-- ---- the promises, of an answer that was come to and printed

module _ (asked : Asked) (files : Change (Option Held)) (disk : Change DiskTold) (sink : Change (Option (List ℕ)))
    (answer : Result (List ℕ) Status) (status : Status)
    (answered : IsAnswered asked files disk answer) (printed : IsPrinted sink answer status) where
  pub follows : IfSome (expected_in asked files) (λ expected. IsStatusOf expected (FaultOf files disk (request_in asked)) (Failed sink)
      status)
  follows = by_expected (expected_in asked files) refl
    where
      by_expected : (found : Option (Result (List ℕ) Status)) → expected_in asked files ≡ found
          → IfSome found (λ expected. IsStatusOf expected (FaultOf files disk (request_in asked)) (Failed sink) status)
      by_expected None e = tt
      by_expected (Some expected) e =
          told_status (FaultOf files disk (request_in asked)) expected answer sink status
          (yields_known asked.fresh files disk (request_in asked) answer expected answered.answers e) printed.delivers

  pub complete : IfSome (expected_in asked files) (IsWhole (FaultOf files disk (request_in asked)) sink status)
  complete = by_expected (expected_in asked files) refl
    where
      by_expected : (found : Option (Result (List ℕ) Status)) → expected_in asked files ≡ found
          → IfSome found (IsWhole (FaultOf files disk (request_in asked)) sink status)
      by_expected None e = tt
      by_expected (Some expected) e =
          whole (FaultOf files disk (request_in asked)) expected answer sink status
          (yields_known asked.fresh files disk (request_in asked) answer expected answered.answers e) printed.delivers

  -- a status other than Done that was printed whole, or that another cause has
  by_status : (P : Status → Type 0) → P OutOfMemory → (Failed sink ⊎ (Failed files × (written_names (request_in asked) ≢ []))
      → P WriteFault) → P Done → (request_in asked ≡ None → P Usage)
      → (Failed files ⊎ IsSomeAnd (request_in asked) (Misses files.before) → P ReadFault) → (Failed disk → P DiskFault)
      → ((limit : ℕ) → P (TooLong limit)) → ((at rule : ℕ) → P (BadRoster at rule)) → ((line : ℕ) → P (BadScript line))
      → ((check post at : ℕ) → P (Refused check post at))
      → P status
  by_status P memory write done usage read disk_fails long bad script_bad refused = by_delivery printed.delivers
    where
      by_answer : (a : Result (List ℕ) Status) → Answers asked files disk a → P (status_of a)
      by_answer (Ok output) h = done
      by_answer (Err refusal) h =
          answer_cases asked.fresh files disk (request_in asked) refusal P usage memory read (λ w. write (inr w)) disk_fails long bad
          script_bad refused h

      by_delivery : Delivers sink answer status → P status
      by_delivery (gained, gains, inl all) = subst P (sym all.0) (by_answer answer answered.answers)
      by_delivery (gained, gains, inr (inl unwritten)) = subst P (sym unwritten.0) (write (inl unwritten.1))
      by_delivery (gained, gains, inr (inr gone)) = subst P (sym gone.0) memory

  pub usage : status ≡ Usage → request_in asked ≡ None
  usage = by_status (λ s. s ≡ Usage → request_in asked ≡ None) (λ e. absurd cc) (λ _ e. absurd cc) (λ e. absurd cc) (λ none _. none)
      (λ _ e. absurd cc) (λ _ e. absurd cc) (λ _ e. absurd cc) (λ _ _ e. absurd cc) (λ _ e. absurd cc) (λ _ _ _ e. absurd cc)

  pub read_fault : status ≡ ReadFault → Failed files ⊎ IsSomeAnd (request_in asked) (Misses files.before)
  read_fault = by_status (λ s. s ≡ ReadFault → Failed files ⊎ IsSomeAnd (request_in asked) (Misses files.before))
      (λ e. absurd cc) (λ _ e. absurd cc) (λ e. absurd cc) (λ _ e. absurd cc)
      (λ why _. why) (λ _ e. absurd cc) (λ _ e. absurd cc) (λ _ _ e. absurd cc) (λ _ e. absurd cc) (λ _ _ _ e. absurd cc)

  pub disk_fault : status ≡ DiskFault → Failed disk
  disk_fault = by_status (λ s. s ≡ DiskFault → Failed disk) (λ e. absurd cc) (λ _ e. absurd cc) (λ e. absurd cc) (λ _ e. absurd cc)
      (λ _ e. absurd cc) (λ rose _. rose) (λ _ e. absurd cc) (λ _ _ e. absurd cc) (λ _ e. absurd cc) (λ _ _ _ e. absurd cc)

  pub write_fault : status ≡ WriteFault → Failed sink ⊎ (Failed files × (written_names (request_in asked) ≢ []))
  write_fault = by_status (λ s. s ≡ WriteFault → Failed sink ⊎ (Failed files × (written_names (request_in asked) ≢ []))) (λ e. absurd cc)
      (λ rose _. rose) (λ e. absurd cc) (λ _ e. absurd cc)
      (λ _ e. absurd cc) (λ _ e. absurd cc) (λ _ e. absurd cc) (λ _ _ e. absurd cc) (λ _ e. absurd cc) (λ _ _ _ e. absurd cc)

  pub untouched : IsUntouched files status
  untouched = by_delivery printed.delivers
    where
      by_delivery : Delivers sink answer status → IsUntouched files status
      by_delivery (gained, gains, inl all) = subst (IsUntouched files) (sym all.0) answered.untouched
      by_delivery (gained, gains, inr (inl unwritten)) = λ _ other _. absurd (other unwritten.0)
      by_delivery (gained, gains, inr (inr gone)) = λ _ _ other. absurd (other gone.0)

  pub borne_out : status ≡ Done → PrintsOutput (BearsOut asked files disk) sink
  borne_out e = by_delivery printed.delivers
    where
      by_answer : (a : Result (List ℕ) Status) (gained : List ℕ) → OnOutput (BearsOut asked files disk) a → status_of a ≡ Done
          → gained ≡ text_of a
          → Gains sink.before sink.now gained → PrintsOutput (BearsOut asked files disk) sink
      by_answer (Ok output) gained bears done is gains =
          let At : List ℕ → Type 0 = λ text. Gains sink.before sink.now text in (output, bears, subst At is gains)
      by_answer (Err refusal) gained other done is gains = absurd (other done)

      by_delivery : Delivers sink answer status → PrintsOutput (BearsOut asked files disk) sink
      by_delivery (gained, gains, inl all) = by_answer answer gained answered.borne_out (sym all.0 ∙ e) all.1 gains
      by_delivery (gained, gains, inr (inl unwritten)) = let f : WriteFault ≡ Done = sym unwritten.0 ∙ e in absurd cc
      by_delivery (gained, gains, inr (inr gone)) = let f : OutOfMemory ≡ Done = sym gone.0 ∙ e in absurd cc

-- ---- the answer of each command

widened : (failed : Status) (fault : Type 0) (expected answer : Result (List ℕ) Status) → YieldsOr failed fault expected answer
    → YieldsBy (Tells failed fault) expected answer
widened failed fault expected answer (inl e) = inl e
widened failed fault expected answer (inr (inl e)) = inr (inl e)
widened failed fault expected answer (inr (inr t)) = inr (inr (failed, t.0, (refl, t.1)))

all_stood : (told : Option Names) → StoodStays told told
all_stood None = tt
all_stood (Some names) = λ name stood. refl

-- a request of files alone that was answered
over_files : (asked : Asked) (files : Change (Option Held)) (disk : Change DiskTold) (request : Option Request)
    (answer : Result (List ℕ) Status) → request_in asked ≡ request → AnswersRequest asked.fresh files disk request answer
    → OnOutput (BearsOutRequest asked.fresh files disk request) answer → FilesKept files (written_names request)
    → IsUntouched files (status_of answer) → files.faults_before ≤ files.faults_now
    → disk.now ≡ disk.before → disk.faults_now ≡ disk.faults_before → IsAnswered asked files disk answer
over_files asked files disk request answer e answers bears kept untouched count disk_kept disk_count =
    let At : Option Request → Type 0 = λ r. AnswersRequest asked.fresh files disk r answer in
    let Kept : Option Request → Type 0 = λ r. FilesKept files (written_names r) in
    let Borne : Option Request → Type 0 = λ r. OnOutput (BearsOutRequest asked.fresh files disk r) answer in record {
      answers = subst At (sym e) answers;
      borne_out = subst Borne (sym e) bears;
      files_kept = subst Kept (sym e) kept;
      untouched = untouched;
      files_count = count;
      disk_kept = λ _. (disk_kept, disk_count);
      disk_stood = subst (λ (d : DiskTold). StoodStays disk.before.names d.names) (sym disk_kept) (all_stood disk.before.names);
      disk_count = omega (arith, disk_count);
    }

usage_answered : (asked : Asked) (files : Change (Option Held)) (disk : Change DiskTold) → request_in asked ≡ None
    → files.now ≡ files.before → files.faults_now ≡ files.faults_before → disk.now ≡ disk.before → disk.faults_now ≡ disk.faults_before
    → IsAnswered asked files disk (Err Usage)
usage_answered asked files disk e kept count disk_kept disk_count =
    over_files asked files disk None (Err Usage) e (inl refl) (λ f. absurd cc) kept (λ _ _ _. kept) (omega (arith, count)) disk_kept disk_count

-- some files that may have stood at the names of inputs
some_files : (told : Option Held) (inputs : List Input) → (contents : List (Option (List ℕ))) × Stood told inputs contents
some_files told [] = ([], tt)
some_files told (input ∷ inputs) =
    let file = some_file told input.name in
    let files = some_files told inputs in (file.0 ∷ files.0, (file.1, files.1))

-- memory may be wanting whatever is asked
answers_memory : (fresh : List ℕ) (files : Change (Option Held)) (disk : Change DiskTold) (request : Option Request)
    → AnswersRequest fresh files disk request (Err OutOfMemory)
answers_memory fresh files disk None = inr refl
answers_memory fresh files disk (Some request) =
    let stood = some_files files.before (inputs_of request) in (stood.0, stood.1, inr (inl refl))

-- where nothing was touched, all files stay but those of some names
others_kept : (now before : Option Held) (names : List (List ℕ)) → now ≡ before → AllOthersStay before now names
others_kept None None names e = tt
others_kept (Some now) (Some before) names e = λ other apart. let same : now ≡ before = cc in rw same refl
others_kept None (Some before) names e = cc
others_kept (Some now) None names e = tt

all_kept : (files : Change (Option Held)) (names : List (List ℕ)) → files.now ≡ files.before → FilesKept files names
all_kept files [] e = e
all_kept files (name ∷ names) e = others_kept files.now files.before (name ∷ names) e

memory_answered : (asked : Asked) (files : Change (Option Held)) (disk : Change DiskTold)
    → files.now ≡ files.before → files.faults_now ≡ files.faults_before → disk.now ≡ disk.before → disk.faults_now ≡ disk.faults_before
    → IsAnswered asked files disk (Err OutOfMemory)
memory_answered asked files disk kept count disk_kept disk_count =
    over_files asked files disk (request_in asked) (Err OutOfMemory) refl (answers_memory asked.fresh files disk (request_in asked))
    (λ f. absurd cc) (all_kept files (written_names (request_in asked)) kept) (λ _ _ _. kept) (omega (arith, count)) disk_kept disk_count

-- words that are refused
pub refused_answered : (asked : Asked) (files : Change (Option Held)) (disk : Change DiskTold) (refusal : WordsRefusal)
    → (refusal ≡ WordsUsage → any_requested asked.words ≡ None)
    → files.now ≡ files.before → files.faults_now ≡ files.faults_before → disk.now ≡ disk.before → disk.faults_now ≡ disk.faults_before
    → IsAnswered asked files disk (Err (words_status refusal))
refused_answered asked files disk WordsUsage none kept count disk_kept disk_count =
    usage_answered asked files disk (ap (option_and_then offline_request) (none refl)) kept count disk_kept disk_count
refused_answered asked files disk WordsMemory none kept count disk_kept disk_count =
    memory_answered asked files disk kept count disk_kept disk_count

-- what is asked of the commands that wait for nobody
asked_for : (asked : Asked) (request : AnyRequest) → any_requested asked.words ≡ Some request
    → request_in asked ≡ offline_request request
asked_for asked request e = ap (option_and_then offline_request) e

pub judge_answered : (asked : Asked) (files : Change (Option Held)) (disk : Change DiskTold) (roster transcript : List ℕ)
    (answer : Result (List ℕ) Status) → any_requested asked.words ≡ Some (for_judge roster transcript)
    → ((roster_file transcript_file : Option (List ℕ)) × Shows files.before roster roster_file
    × Shows files.before transcript transcript_file
    × Yields (Failed files) (judge_outcome (within ROSTER_LIMIT roster_file) (within TRANSCRIPT_LIMIT transcript_file)) answer)
    → OnOutput (FilesConvict files.before roster transcript) answer → files.now ≡ files.before
    → files.faults_before ≤ files.faults_now → disk.now ≡ disk.before → disk.faults_now ≡ disk.faults_before
    → IsAnswered asked files disk answer
judge_answered asked files disk roster transcript answer e (file, second, shows, shows', y) bears kept count disk_kept disk_count =
    over_files asked files disk (Some (Judge roster transcript)) answer (asked_for asked (for_judge roster transcript) e) (
      file ∷ second ∷ [],
      (shows, (shows', tt)),
      widened ReadFault (Failed files)
          (judge_outcome (within ROSTER_LIMIT file) (within TRANSCRIPT_LIMIT second)) answer y,
    )
    bears kept (λ _ _ _. kept) count disk_kept disk_count

pub show_answered : (asked : Asked) (files : Change (Option Held)) (disk : Change DiskTold) (roster : List ℕ) (round : ℕ) (post : List ℕ)
    (answer : Result (List ℕ) Status) → any_requested asked.words ≡ Some (for_show roster round post)
    → ((roster_file post_file : Option (List ℕ)) × Shows files.before roster roster_file × Shows files.before post post_file
    × Yields (Failed files) (show_outcome round (within ROSTER_LIMIT roster_file) (within POST_FILE_LIMIT post_file)) answer)
    → OnOutput (FilesShow files.before roster round post) answer → files.now ≡ files.before
    → files.faults_before ≤ files.faults_now → disk.now ≡ disk.before → disk.faults_now ≡ disk.faults_before
    → IsAnswered asked files disk answer
show_answered asked files disk roster round post answer e (file, second, shows, shows', y) bears kept count disk_kept disk_count =
    over_files asked files disk (Some (Show roster round post)) answer (asked_for asked (for_show roster round post) e) (
      file ∷ second ∷ [],
      (shows, (shows', tt)),
      widened ReadFault (Failed files)
          (show_outcome round (within ROSTER_LIMIT file) (within POST_FILE_LIMIT second)) answer y,
    )
    bears kept (λ _ _ _. kept) count disk_kept disk_count

pub roster_answered : (asked : Asked) (files : Change (Option Held)) (disk : Change DiskTold) (toml out : List ℕ)
    (answer : Result (List ℕ) Status) → any_requested asked.words ≡ Some (for_roster toml out) → IsRosterRun files toml out answer
    → disk.now ≡ disk.before → disk.faults_now ≡ disk.faults_before → IsAnswered asked files disk answer
roster_answered asked files disk toml out answer e ran disk_kept disk_count =
    over_files asked files disk (Some (MakeRoster toml out)) answer (asked_for asked (for_roster toml out) e)
    (ran.answers.0 ∷ [], (ran.answers.1, tt), ran.answers.2) ran.borne_out ran.others ran.untouched ran.count disk_kept disk_count

pub group_answered : (asked : Asked) (files : Change (Option Held)) (disk : Change DiskTold) (script roster transcript : List ℕ)
    (answer : Result (List ℕ) Status) → any_requested asked.words ≡ Some (for_group script roster transcript)
    → IsScriptRun files script roster transcript answer
    → disk.now ≡ disk.before → disk.faults_now ≡ disk.faults_before → IsAnswered asked files disk answer
group_answered asked files disk script roster transcript answer e ran disk_kept disk_count =
    over_files asked files disk (Some (Group script roster transcript)) answer (asked_for asked (for_group script roster transcript) e)
    (ran.answers.0 ∷ [], (ran.answers.1, tt), ran.answers.2) ran.borne_out ran.others ran.untouched ran.count disk_kept disk_count

pub keygen_answered : (asked : Asked) (files : Change (Option Held)) (disk : Change DiskTold) (key : List ℕ) (height : MadeHeight)
    (width : OtsType)
    (answer : Result (List ℕ) Status) → any_requested asked.words ≡ Some (for_keygen key height width)
    → YieldsOr DiskFault (Failed disk) (keygen_outcome asked.fresh height width) answer
    → OnOutput (IsMade height width asked.fresh key disk) answer → StoodStays disk.before.names disk.now.names
    → disk.faults_before ≤ disk.faults_now
    → files.now ≡ files.before → files.faults_now ≡ files.faults_before → IsAnswered asked files disk answer
keygen_answered asked files disk key height width answer e y bears stood disk_count kept count =
    let e' = asked_for asked (for_keygen key height width) e in
    let At : Option Request → Type 0 = λ r. AnswersRequest asked.fresh files disk r answer in
    let Borne : Option Request → Type 0 = λ r. OnOutput (BearsOutRequest asked.fresh files disk r) answer in
    let Others : Option Request → Type 0 = λ r. FilesKept files (written_names r) in
    let Kept : Option Request → Type 0 = λ r. ¬ MakesKey r → (disk.now ≡ disk.before) × (disk.faults_now ≡ disk.faults_before) in record {
      answers = subst At (sym e') ([], tt, widened DiskFault (Failed disk) (keygen_outcome asked.fresh height width) answer y);
      borne_out = subst Borne (sym e') bears;
      files_kept = subst Others (sym e') kept;
      untouched = λ _ _ _. kept;
      files_count = omega (arith, count);
      disk_kept = subst Kept (sym e') (λ other. absurd (other refl));
      disk_stood = stood;
      disk_count = disk_count;
    }

-- The conviction that `judge` prints.

pub convicted : (told told' : Option Held) (roster transcript bytes bytes' read read' text : List ℕ) (value : Roster) (accepted : Accepted)
    → Shows told roster (Some bytes) → told' ≡ told → Shows told' transcript (Some read) → bytes' ≡ bytes → read' ≡ read
    → IsRosterFile value × (bytes' ≡ roster_spelling value) → Accepts value read' accepted.accused accepted.claim
    → HasNoHonestRun value read' accepted.accused → NoRunsSaid value read' accepted.accused
    → text ≡ accepted_line accepted → FilesConvict told roster transcript text
convicted told told' roster transcript bytes bytes' read read' text value accepted shows same shows' e e' spelled accepts nobody_honest
    no_framing printed =
    let At : Option Held → Type 0 = λ t. Shows t transcript (Some read) in (
      Some bytes,
      Some read,
      shows,
      subst At same shows',
      record {
        roster_bytes = bytes;
        bytes = read;
        roster = value;
        accepted = accepted;
        roster_is = refl;
        transcript_is = refl;
        spelled = (spelled.0, sym e ∙ spelled.1);
        accepts = subst (λ (b : List ℕ). Accepts value b accepted.accused accepted.claim) e' accepts;
        printed = printed;
        nobody_honest = subst (λ (b : List ℕ). HasNoHonestRun value b accepted.accused) e' nobody_honest;
        no_framing = subst (λ (b : List ℕ). NoRunsSaid value b accepted.accused) e' no_framing;
      },
    )

-- The post that `show` tells of.

pub shown : (told told' : Option Held) (roster : List ℕ) (round : ℕ) (post bytes bytes' read read' text : List ℕ) (value : Roster)
    (content : Content)
    → Shows told roster (Some bytes) → told' ≡ told → Shows told' post (Some read) → bytes' ≡ bytes → read' ≡ read
    → IsRosterFile value × (bytes' ≡ roster_spelling value) → IsPostFile value round read' content
    → text ≡ shown_line content → FilesShow told roster round post text
shown told told' roster round post bytes bytes' read read' text value content shows same shows' e e' spelled passes printed =
    let At : Option Held → Type 0 = λ t. Shows t post (Some read) in (
      Some bytes,
      Some read,
      shows,
      subst At same shows',
      record {
        roster_bytes = bytes;
        bytes = read;
        roster = value;
        content = content;
        roster_is = refl;
        post_is = refl;
        spelled = (spelled.0, sym e ∙ spelled.1);
        passes = subst (λ (b : List ℕ). IsPostFile value round b content) e' passes;
        printed = printed;
      },
    )

pub roster_status-not_done : (refusal : RosterRefusal) → roster_status refusal ≢ Done
roster_status-not_done (Bad at rule) = λ e. cc
roster_status-not_done RosterMemory = λ e. cc

pub judge_status-not_done : (refusal : JudgeRefusal) → judge_status refusal ≢ Done
judge_status-not_done (Check check post at) = λ e. cc
judge_status-not_done JudgeMemory = λ e. cc
