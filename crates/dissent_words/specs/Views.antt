-- What contracts see of values inside the crate.
use Rattle.std.specs.Prelude.{map}
use Rattle.clap.specs.declared.error.kind.ErrorKind.{ErrorKind}
use Rattle.clap.specs.declared.error.kind.ErrorKind.TheVariants.{OutOfMemory}
use Rattle.dissent_words.specs.declared.refusal.WordsRefusal.{WordsRefusal}
use Rattle.dissent_words.specs.declared.refusal.WordsRefusal.TheVariants.{Usage, Memory}
use Rattle.dissent_words.specs.declared.values.GivenWords.{GivenWords}
use Rattle.dissent_words.specs.Forms.{Given}

-- the bytes of what words give
abbrev pub given_of : GivenWords → Given
given_of given = record { values = map (λ value. value.now) given.values.items; addresses = map (λ address. address.now) given.addresses.items }

-- what an error of clap's comes to
abbrev pub refusal_for : ErrorKind → WordsRefusal
refusal_for OutOfMemory = Memory
refusal_for kind = Usage
