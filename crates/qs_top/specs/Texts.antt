-- The text that was read or made, and the script that it is.
use Rattle.std.specs.Prelude.{◌≡◌, ℕ, List, Option, Ok}
use Rattle.std.specs.Io.KnownBytes.{Consumes}
use Rattle.qs_gen.specs.Load.{load_script}
use Rattle.qs_io.specs.Streams.{IsWholeOrLonger}
use Rattle.qs_text.specs.declared.given.Shown.{Shown}
use Rattle.qs_text.specs.declared.given.Shown.TheVariants as shows
use Rattle.qs_text_script.specs.Script.{script_of}
use Rattle.qs_book_script.specs.declared.script.Script.{Script}

-- the source was read to its end, or to the byte past the limit, and its text has P
pub record ReadWhole (limit : ℕ) (old new : Option (List ℕ)) (P : List ℕ → Type 0) : Type 0 where
  pub text : List ℕ
  pub consumed : Consumes old new text
  pub whole : IsWholeOrLonger new text limit
  pub holds : P text

-- the text is a script of a run of so many nodes that has P
pub record OfScript (nodes : ℕ) (P : Script → Type 0) (text : List ℕ) : Type 0 where
  pub script : Script
  pub read : script_of nodes text ≡ Ok script
  pub holds : P script

-- the text of the script of a run of which this is shown has P: a load's is the load script of its seed, and nothing is taken of the source; any other is what was
-- read of the source
abbrev pub HasText : Shown → Option (List ℕ) → Option (List ℕ) → (List ℕ → Type 0) → Type 0
HasText (shows.Load seed) old new P = (new ≡ old) × P (load_script seed)
HasText shows.Output old new P = ReadWhole 1048576 old new P
HasText shows.Journal old new P = ReadWhole 1048576 old new P
