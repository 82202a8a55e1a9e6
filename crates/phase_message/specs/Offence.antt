-- Reading a content from left to right: what it says, or the first offence, which is a rule with a place.
--
--   rule 7  fewer than 76 bytes                        at the number of bytes
--   rule 8  the version is not the shape's             at 0
--   rule 9  stage and sender are no slot               at 41, the stage
--   rule 1  the stage has no such kind                 at 75, the kind
--   rule 2  a field of the body ends after the content at the field
--   rule 4  a coefficient of a key is 12289 or more    at its group of seven bytes
--   rule 5  a flag is neither 0 nor 1                  at the flag
--   rule 6  a pad has more than 65,536 bytes           at its length
--   rule 3  bytes follow the body                      at the first of them
use Rattle.std.specs.Prelude.{ℕ, ◌+◌, ◌*◌, ◌/◌, List, length, drop, Bool, not, ◌==◌, nat_lt, Option, Some, None, Result, Ok, option_map, ok_or}
use Rattle.std.specs.Result.{result_err}
use Rattle.std.specs.Int.{w8, w32}
use Rattle.ring_poly.specs.Packing.{unpacked, first_too_large}
use Rattle.wire_core.specs.declared.cursor.Short.{Short}
use Rattle.wire_core.specs.Answers.{◌>>=◌, fault_as, unless, value_unless}
use Rattle.wire_core.specs.Reading.{Reading, reading_of, repeated, bytes_at, number_at}
use Rattle.phase_message.specs.declared.header.Header.{Header}
use Rattle.phase_message.specs.declared.form.ItemForm.{ItemForm}
use Rattle.phase_message.specs.declared.form.ItemForm.TheVariants.{Entry, Post, Pad}
use Rattle.phase_message.specs.declared.form.BodyForm.{BodyForm}
use Rattle.phase_message.specs.declared.form.BodyForm.TheVariants.{Keys as OfKeys, Submit as OfSubmit, Shuffled as OfShuffled, Abort as OfAbort, Go as OfGo, Reveal as OfReveal, Dispute as OfDispute, Pads as OfPads, Check as OfCheck, Confirm as OfConfirm, Differ as OfDiffer}
use Rattle.phase_message.specs.declared.content.Body.{Body}
use Rattle.phase_message.specs.declared.content.Body.TheVariants.{Keys, Submit, Shuffled, Abort, Go, Reveal, Dispute, Pads, Check, Confirm, Differ}
use Rattle.phase_message.specs.declared.content.Content.{Content}
use Rattle.phase_message.specs.declared.content.DecodeRefusal.{DecodeRefusal}
use Rattle.phase_message.specs.declared.content.DecodeRefusal.TheVariants.{Malformed, Memory}
use Rattle.phase_message.specs.declared.offence.Offence.{Offence}
use Rattle.phase_message.specs.Shape.{Shape}
use Rattle.phase_message.specs.Stages.{is_slot}
use Rattle.phase_message.specs.Header.{header_at}
use Rattle.phase_message.specs.Body.{body_form}

abbrev pub offence : ℕ → ℕ → Offence
offence rule at = record { at = at; rule = rule }

-- a field that ends after the content
abbrev pub cut : Short → Offence
cut short = offence 2 short.at

-- which offence a refusal tells; out of memory tells none
abbrev pub fault : DecodeRefusal → Option Offence
fault (Malformed at rule) = Some (offence rule at)
fault Memory = None

-- ---- fields

-- n bytes, as a seed or an opening
abbrev pub field_at : ℕ → Reading → Result (List ℕ × Reading) Offence
field_at n before = fault_as cut (bytes_at n before)

-- yes or no, spelled 1 or 0
unfoldable pub flag_at : Reading → Result (Bool × Reading) Offence
flag_at before = do
  flag ← fault_as cut (number_at w8 before)
  unless (nat_lt 1 flag.0) (offence 5 before.place) (flag.0 == 1, flag.1)

-- where the first group of seven bytes begins that spells a number of 12289 or more
unfoldable pub bad_group : List ℕ → Option ℕ
bad_group bytes = option_map (λ large. 7 * (large.place / 4)) (first_too_large 0 (unpacked bytes))

-- a public key: 32 bytes, and 1,792 that spell 1,024 coefficients below 12289
unfoldable pub key_at : Reading → Result (List ℕ × Reading) Offence
key_at before = do
  key ← field_at 1824 before
  value_unless (option_map (λ group. offence 4 (before.place + 32 + group)) (bad_group (drop 32 key.0))) key

-- how many bytes an item of a list has. A post and a pad say it in the four bytes before
unfoldable pub length_at : ItemForm → Reading → Result (ℕ × Reading) Offence
length_at (Entry n) before = Ok (n, before)
length_at Post before = fault_as cut (number_at w32 before)
length_at Pad before = do
  n ← fault_as cut (number_at w32 before)
  unless (nat_lt 65536 n.0) (offence 6 before.place) n

unfoldable pub item_at : ItemForm → Reading → Result (List ℕ × Reading) Offence
item_at form before = do
  n ← length_at form before
  field_at n.0 n.1

-- so many items, one after the other
abbrev pub items_at : ItemForm → ℕ → Reading → Result (List (List ℕ) × Reading) Offence
items_at form count before = repeated count (item_at form) before

-- ---- bodies

-- a value that is read, as a body that holds it
abbrev pub held_in : {A : Type 0} → (A → Body) → Result (A × Reading) Offence → Result (Body × Reading) Offence
held_in body read = read >>= λ x. Ok (body x.0, x.1)

unfoldable pub body_at : BodyForm → Reading → Result (Body × Reading) Offence
body_at OfKeys before = held_in Keys (repeated 5 key_at before)
body_at (OfSubmit n) before = held_in Submit (item_at (Entry n) before)
body_at (OfShuffled count n) before = held_in Shuffled (items_at (Entry n) count before)
body_at OfAbort before = Ok (Abort, before)
body_at OfGo before = held_in Go (flag_at before)
body_at (OfReveal count) before = do
  votes ← items_at Post count before
  seed ← field_at 32 votes.1
  Ok (Reveal votes.0 seed.0, seed.1)
body_at (OfDispute count) before = do
  posts ← items_at Post count before
  seed ← field_at 32 posts.1
  opening ← field_at 32 seed.1
  Ok (Dispute posts.0 seed.0 opening.0, opening.1)
body_at (OfPads count) before = held_in Pads (items_at Pad count before)
body_at OfCheck before = held_in Check (flag_at before)
body_at (OfConfirm count) before = held_in Confirm (items_at Post count before)
body_at (OfDiffer count) before = held_in Differ (items_at Post count before)

-- ---- contents

-- the header and the kind, with what a body of the kind holds at the stage
unfoldable pub head_at : Shape → Reading → Result ((Header × BodyForm) × Reading) Offence
head_at shape before = do
  header ← fault_as cut (header_at before)
  version ← unless (not (header.0.version == shape.version)) (offence 8 0) header.1
  slot ← unless (not (is_slot shape header.0.stage header.0.sender)) (offence 9 41) header.1
  kind ← fault_as cut (number_at w8 header.1)
  form ← ok_or (body_form shape header.0.stage kind.0) (offence 1 75)
  Ok ((header.0, form), kind.1)

-- a content of a round of a shape, or its first offence
unfoldable pub content_read : Shape → List ℕ → Result Content Offence
content_read shape bytes = do
  whole ← unless (nat_lt (length bytes) 76) (offence 7 (length bytes)) (reading_of bytes)
  head ← head_at shape (reading_of bytes)
  body ← body_at head.0.1 head.1
  unless (nat_lt 0 (length body.1.rest)) (offence 3 body.1.place) (record { header = head.0.0; body = body.0 })

-- the first offence of bytes, none where they spell a content
abbrev pub first_offence : Shape → List ℕ → Option Offence
first_offence shape bytes = result_err (content_read shape bytes)

-- what a reading comes to for one that keeps nothing: where it stands then, or the first offence
abbrev pub passed : {A : Type 0} → Result (A × Reading) Offence → Result (Unit {0} × Reading) Offence
passed read = read >>= λ x. Ok (tt {0}, x.1)
