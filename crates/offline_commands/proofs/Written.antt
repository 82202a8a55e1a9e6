-- What a command that reads a file and then writes files comes to at each of its steps, whatever it makes of the file.
use Rattle.std.proofs.Common.{◌≡◌, ◌≢◌, ◌≤◌, ◌⊎◌, inl, inr, refl, sym, ◌∙◌, ap, subst, ℕ, List, [], ◌∷◌, length, Option, Some, None, Result, Ok, Err, arith}
use Rattle.outside.specs.Faults.{Rose}
use Rattle.outside.specs.Changes.{Change, Failed}
use Rattle.group_roster.specs.declared.refusal.RosterRefusal.{RosterRefusal}
use Rattle.group_roster.specs.declared.refusal.RosterRefusal.TheVariants.{Bad, Memory as RosterMemory}
use Rattle.group_roster.specs.Roster.{Roster, IsRosterFile, roster_spelling}
use Rattle.group_roster.specs.Toml.{toml_read}
use Rattle.round_script.specs.declared.refusal.ScriptRefusal.{ScriptRefusal}
use Rattle.round_script.specs.declared.refusal.ScriptRefusal.TheVariants.{BadLine, Memory as ScriptMemory}
use Rattle.round_script.specs.declared.script.Script.{Script}
use Rattle.round_script.specs.Read.{script_read}
use Rattle.round_script.specs.Script.{IsScript}
use Rattle.group_laws.proofs.Accountable.{is_accountable}
use Rattle.group_spec.specs.Scripts.{script_roster}
use Rattle.group_report.specs.Report.{evidence_seen, group_output}
use Rattle.offline_commands.specs.declared.status.Status.{Status}
use Rattle.offline_commands.specs.declared.status.Status.TheVariants.{Done, ReadFault, WriteFault, OutOfMemory}
use Rattle.offline_commands.specs.Outside.{Held, Shows, HoldsNow, OthersStay, AllOthersStay}
use Rattle.offline_commands.specs.Outcome.{within, roster_outcome, group_outcome, members_seen, id_line}
use Rattle.offline_commands.specs.Refusals.{RefusesRoster, RefusesScript, roster_status, script_status}
use Rattle.offline_commands.specs.Promise.{IsFileRun, FilesHold, FilesRun, WritesGroup}
use Rattle.offline_commands.proofs.TwoFiles.{Reads, rose_earlier}
use Rattle.offline_commands.proofs.Reading.{some_file}
use Rattle.offline_commands.proofs.Convicting.{transcript_convicts}

-- ---- what stays

-- files that stay the same are all others too
pub same_others : (old new : Option Held) (names : List (List ℕ)) → new ≡ old → AllOthersStay old new names
same_others None new names same = tt
same_others (Some held) new names same =
    let At : Option Held → Type 0 = λ now. AllOthersStay (Some held) now names in subst At (sym same) (λ other none. refl)

-- a write leaves all but its name, and so all but it and others
pub one_written : (old new : Option Held) (name : List ℕ) (names : List (List ℕ)) → OthersStay old new name
    → AllOthersStay old new (name ∷ names)
one_written None new name names stay = tt
one_written (Some held) (Some held') name names stay = λ other none. stay other none.0
one_written (Some held) None name names stay = absurd stay

-- two writes leave all but their names
pub two_written : (old middle new : Option Held) (first second : List ℕ) → OthersStay old middle first → OthersStay middle new second
    → AllOthersStay old new (first ∷ second ∷ [])
two_written None middle new first second stay stay' = tt
two_written (Some held) (Some held') (Some held'') first second stay stay' =
    λ other none. stay' other none.1.0 ∙ stay other none.0
two_written (Some held) (Some held') None first second stay stay' = absurd stay'
two_written (Some held) None new first second stay stay' = absurd stay

-- ---- the steps of a command

took : (limit : ℕ) (bytes : List ℕ) → length bytes ≤ limit → within limit (Some bytes) ≡ Ok bytes
took limit bytes bounded = grind arith

module _ (files : Change (Option Held)) (name : List ℕ) (limit : ℕ) (outcome : Result (List ℕ) Status → Result (List ℕ) Status)
    (Bears : List ℕ → Type 0) (names : List (List ℕ)) where
  abbrev Ran : Result (List ℕ) Status → Type 0
  Ran answer = IsFileRun files (record { name = name; limit = limit }) outcome Bears names answer

  -- the file could not be read
  pub unread : (status : Status) → ((s : Status) → outcome (Err s) ≡ Err s) → Reads (Failed files) files.before name limit (Err status)
      → status ≢ Done → files.now ≡ files.before → files.faults_before ≤ files.faults_now → Ran (Err status)
  unread status passes (file, shows, y) other kept count = record {
    answers = (
      file,
      shows,
      elim y [
        | inl is ↦ inl (sym (ap outcome (sym is) ∙ passes status))
        | inr others ↦ elim others [
          | inl e ↦ inr (inl e)
          | inr failure ↦ inr (inr (ReadFault, failure.0, (inl refl, failure.1)))
        ]
      ],
    );
    borne_out = other;
    others = same_others files.before files.now names kept;
    untouched = λ _ _ _. kept;
    count = count;
  }

  -- memory was gone before a write
  pub no_memory : files.now ≡ files.before → files.faults_before ≤ files.faults_now → Ran (Err OutOfMemory)
  no_memory kept count =
      let file = some_file files.before name in record {
        answers = (file.0, file.1, inr (inl refl));
        borne_out = λ e. absurd cc;
        others = same_others files.before files.now names kept;
        untouched = λ _ _ _. kept;
        count = count;
      }

  -- the command comes to a status over the file
  pub refused : (bytes : List ℕ) (status : Status) → Shows files.before name (Some bytes) → length bytes ≤ limit
      → outcome (Ok bytes) ≡ Err status → status ≢ Done → files.now ≡ files.before → files.faults_before ≤ files.faults_now
      → Ran (Err status)
  refused bytes status shows bounded comes other kept count = record {
    answers = (Some bytes, shows, inl (sym (ap outcome (took limit bytes bounded) ∙ comes)));
    borne_out = other;
    others = same_others files.before files.now names kept;
    untouched = λ _ _ _. kept;
    count = count;
  }

  -- or to a want of memory
  pub refused_or_memory : (bytes : List ℕ) (status : Status) → Shows files.before name (Some bytes) → length bytes ≤ limit
      → (outcome (Ok bytes) ≡ Err status) ⊎ (status ≡ OutOfMemory) → status ≢ Done → files.now ≡ files.before
      → files.faults_before ≤ files.faults_now → Ran (Err status)
  refused_or_memory bytes status shows bounded (inl comes) other kept count = refused bytes status shows bounded comes other kept count
  refused_or_memory bytes status shows bounded (inr gone) other kept count =
      let At : Status → Type 0 = λ s. Ran (Err s) in subst At (sym gone) (no_memory kept count)

  -- a file could not be written
  pub unwritten : (middle : Option Held) (faults : ℕ) (status : Status) → middle ≡ files.before → AllOthersStay middle files.now names
      → files.faults_before ≤ faults → faults ≤ files.faults_now
      → ((status ≡ OutOfMemory) ⊎ ((status ≡ WriteFault) × Rose faults files.faults_now)) → Ran (Err status)
  unwritten middle faults status same others first second (inl e) =
      let file = some_file files.before name in
      let At : Option Held → Type 0 = λ before. AllOthersStay before files.now names in record {
        answers = (file.0, file.1, inr (inl (ap Err e)));
        borne_out = λ done. (let f : OutOfMemory ≡ Done = sym e ∙ done in absurd cc);
        others = subst At same others;
        untouched = λ _ _ other. absurd (other e);
        count = omega (arith, first, second);
      }
  unwritten middle faults status same others first second (inr (e, rose)) =
      let file = some_file files.before name in
      let At : Option Held → Type 0 = λ before. AllOthersStay before files.now names in record {
        answers = (
          file.0,
          file.1,
          inr (inr (
            WriteFault,
            ap Err e,
            (inr refl, rose_earlier files.faults_before faults files.faults_now first rose),
          )),
        );
        borne_out = λ done. (let f : WriteFault ≡ Done = sym e ∙ done in absurd cc);
        others = subst At same others;
        untouched = λ _ other _. absurd (other e);
        count = omega (arith, first, second);
      }

  -- all was written
  pub written : (bytes text : List ℕ) (middle : Option Held) (faults : ℕ) → Shows files.before name (Some bytes)
      → length bytes ≤ limit → outcome (Ok bytes) ≡ Ok text → Bears text → middle ≡ files.before
      → AllOthersStay middle files.now names → files.faults_before ≤ faults → faults ≤ files.faults_now → Ran (Ok text)
  written bytes text middle faults shows bounded comes bears same others first second =
      let At : Option Held → Type 0 = λ before. AllOthersStay before files.now names in record {
        answers = (Some bytes, shows, inl (sym (ap outcome (took limit bytes bounded) ∙ comes)));
        borne_out = bears;
        others = subst At same others;
        untouched = λ other _ _. absurd (other refl);
        count = omega (arith, first, second);
      }

-- ---- what a roster in TOML comes to

-- the file stands for no roster; or memory was gone
pub bad_roster : (bytes bytes' : List ℕ) (refusal : RosterRefusal) → bytes' ≡ bytes → RefusesRoster (toml_read bytes') refusal
    → (roster_outcome (Ok bytes) ≡ Err (roster_status refusal)) ⊎ (roster_status refusal ≡ OutOfMemory)
bad_roster bytes bytes' (Bad at rule) e refuses =
    let is : toml_read bytes ≡ Err (at, rule) = ap toml_read (sym e) ∙ refuses in inl (rw is refl)
bad_roster bytes bytes' RosterMemory e refuses = inr refl

-- the file stands for a roster
pub good_roster : (bytes bytes' text : List ℕ) (roster : Roster) → bytes' ≡ bytes → toml_read bytes' ≡ Ok roster → text ≡ id_line roster
    → roster_outcome (Ok bytes) ≡ Ok text
good_roster bytes bytes' text roster e reads prints =
    let is : toml_read bytes ≡ Ok roster = ap toml_read (sym e) ∙ reads in rw (is, prints) refl

-- and what was written bears its id out
pub roster_held : (files : Change (Option Held)) (toml out bytes bytes' spelled text : List ℕ) (middle : Option Held) (roster : Roster)
    → Shows files.before toml (Some bytes) → bytes' ≡ bytes → toml_read bytes' ≡ Ok roster → IsRosterFile roster
    → middle ≡ files.before → HoldsNow middle files.now out spelled → spelled ≡ roster_spelling roster → text ≡ id_line roster
    → FilesHold files toml out text
roster_held files toml out bytes bytes' spelled text middle roster shows e reads form same holds spells prints =
    let Holding : Option Held → Type 0 = λ before. HoldsNow before files.now out spelled in
    let Spelled : List ℕ → Type 0 = λ b. HoldsNow files.before files.now out b in (
      Some bytes,
      shows,
      record {
        bytes = bytes;
        roster = roster;
        toml_is = refl;
        stands_for = ap toml_read (sym e) ∙ reads;
        form = form;
        holds = subst Spelled spells (subst Holding same holds);
        printed = prints;
      },
    )

-- ---- what a script comes to

-- a bad line, or memory was gone
pub bad_script : (bytes bytes' : List ℕ) (refusal : ScriptRefusal) → bytes' ≡ bytes → RefusesScript (script_read bytes') refusal
    → (group_outcome (Ok bytes) ≡ Err (script_status refusal)) ⊎ (script_status refusal ≡ OutOfMemory)
bad_script bytes bytes' (BadLine line) e refuses =
    let is : script_read bytes ≡ Err line = ap script_read (sym e) ∙ refuses in inl (rw is refl)
bad_script bytes bytes' ScriptMemory e refuses = inr refl

pub script_status-not_done : (refusal : ScriptRefusal) → script_status refusal ≢ Done
script_status-not_done (BadLine line) = λ e. cc
script_status-not_done ScriptMemory = λ e. cc

-- a script whose group was run
pub good_script : (bytes bytes' text : List ℕ) (script : Script) → bytes' ≡ bytes → script_read bytes' ≡ Ok script
    → text ≡ group_output (members_seen script) → group_outcome (Ok bytes) ≡ Ok text
good_script bytes bytes' text script e reads prints =
    let is : script_read bytes ≡ Ok script = ap script_read (sym e) ∙ reads in rw (is, prints) refl

-- and what was written bears it out
pub group_held : (files : Change (Option Held)) (name roster transcript bytes bytes' text spelled : List ℕ) (found : Option (List ℕ))
    (middle : Option Held) (script : Script)
    → Shows files.before name (Some bytes) → bytes' ≡ bytes → script_read bytes' ≡ Ok script → IsScript script
    → middle ≡ files.before → WritesGroup middle files.now roster transcript spelled found
    → spelled ≡ roster_spelling (script_roster script) → found ≡ evidence_seen (members_seen script)
    → text ≡ group_output (members_seen script) → FilesRun files name roster transcript text
group_held files name roster transcript bytes bytes' text spelled found middle script shows e reads form same writes spells finds prints =
    let From : Option Held → Type 0 = λ before. WritesGroup before files.now roster transcript spelled found in
    let Spelled : List ℕ → Type 0 = λ b. WritesGroup files.before files.now roster transcript b found in
    let Found : Option (List ℕ) → Type 0 = λ f. WritesGroup files.before files.now roster transcript (roster_spelling (script_roster script)) f in (
      Some bytes,
      shows,
      record {
        bytes = bytes;
        script = script;
        script_is = refl;
        reads = ap script_read (sym e) ∙ reads;
        form = form;
        accountable = is_accountable script form;
        writes = subst Found finds (subst Spelled spells (subst From same writes));
        convicts = transcript_convicts script (is_accountable script form);
        printed = prints;
      },
    )
