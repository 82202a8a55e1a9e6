-- When a revealed seed is that of the key that its member said.
use Rattle.std.specs.Prelude.{◌≡◌, ℕ, List, [], Bool, true, bytes_eq, Option, Some, None, Result, Ok, slice_index_or}
use Rattle.phase_message.specs.declared.content.Body.{Body}
use Rattle.phase_message.specs.declared.content.Body.TheVariants.{Keys, Reveal}
use Rattle.phase_message.specs.declared.content.Content.{Content}
use Rattle.phase_message.specs.declared.header.Header.{Header}
use Rattle.phase_message.specs.declared.stage.StageKind.{StageKind}
use Rattle.phase_message.specs.declared.stage.StageKind.TheVariants.{Keys as AtKeys, Final}
use Rattle.phase_message.specs.declared.offence.Offence.{Offence}
use Rattle.phase_message.specs.Offence.{content_read}
use Rattle.phase_message.specs.Shape.{Shape}
use Rattle.phase_message.specs.Stages.{kind_of_stage}
use Rattle.ring_encrypt.specs.Capsule.{key_of_seed}
use Rattle.conviction.specs.Accepts.{inner_key}

-- whether a seed that is revealed at the end of a shuffle is that of the inner key
abbrev pub is_seed_in : Option StageKind → Body → Body → Bool
is_seed_in (Some (Final shuffle)) (Keys keys) (Reveal votes seed) = bytes_eq (key_of_seed seed) (inner_key shuffle keys)
is_seed_in kind keys final = true

-- the same of contents that are read
abbrev pub is_seed_of_key : Option StageKind → Result Content Offence → Result Content Offence → Bool
is_seed_of_key kind (Ok keys) (Ok final) = is_seed_in kind keys.body final.body
is_seed_of_key kind keys final = true

-- the shuffle that a stage ends
abbrev pub shuffle_ended : Option StageKind → Option ℕ
shuffle_ended (Some (Final shuffle)) = Some shuffle
shuffle_ended kind = None

-- ---- where a key and a seed stand

-- bytes spell a content at the stage of the keys
pub record IsKeysContent (shape : Shape) (bytes : List ℕ) : Type 0 where
  pub content : Content
  pub reads : content_read shape bytes ≡ Ok content
  pub at : kind_of_stage shape content.header.stage ≡ Some AtKeys

abbrev pub SpellsKeys : List ℕ → Type 0
SpellsKeys bytes = (shape : Shape) × IsKeysContent shape bytes

-- bytes spell a content of keys, and this is the key at a place
pub record SaysKey (shape : Shape) (bytes : List ℕ) (place : ℕ) (key : List ℕ) : Type 0 where
  pub header : Header
  pub keys : List (List ℕ)
  pub reads : content_read shape bytes ≡ Ok (record { header = header; body = Keys keys })
  pub is : key ≡ slice_index_or keys place []

-- bytes spell a content that reveals a seed
pub record RevealsSeed (shape : Shape) (bytes : List ℕ) : Type 0 where
  pub header : Header
  pub votes : List (List ℕ)
  pub seed : List ℕ
  pub reads : content_read shape bytes ≡ Ok (record { header = header; body = Reveal votes seed })

abbrev pub SpellsReveal : List ℕ → Type 0
SpellsReveal bytes = (shape : Shape) × RevealsSeed shape bytes
