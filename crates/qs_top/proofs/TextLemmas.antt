-- The text of the script of a run, be it made or read.
use Rattle.std.proofs.Common.{◌≡◌, ◌≤◌, ℕ, List, Option, Ok}
use Rattle.qs_book_script.specs.declared.script.Script.{Script}
use Rattle.qs_gen.specs.Load.{load_script}
use Rattle.qs_text.specs.declared.given.Shown.{Shown}
use Rattle.qs_text.specs.declared.given.Shown.TheVariants as shows
use Rattle.qs_text_script.specs.Script.{script_of}
use Rattle.qs_top.specs.Texts.{HasText, OfScript, ReadWhole}
use Rattle.qs_world_nodes.specs.Openings.{ReadSitOnce, SitOnce}
use Rattle.qs_world_opening.specs.Scripts.{Fits, ScriptFits}

module _ (l m : Option (List ℕ)) where
  map_read : (P Q : List ℕ → Type 0) → ((text : List ℕ) → P text → Q text) → ReadWhole 1048576 l m P → ReadWhole 1048576 l m Q
  map_read P Q more read = record { text = read.text; consumed = read.consumed; whole = read.whole; holds = more read.text read.holds }

  pub map_text : (shown : Shown) (P Q : List ℕ → Type 0) → ((text : List ℕ) → P text → Q text) → HasText shown l m P → HasText shown l m Q
  map_text shows.Output P Q more has = map_read P Q more has
  map_text shows.Journal P Q more has = map_read P Q more has
  map_text (shows.Load seed) P Q more has = (has.0, more (load_script seed) has.1)

  -- what comes of any such text
  from_text : {A : Type 0} (shown : Shown) (P : List ℕ → Type 0) → ((text : List ℕ) → P text → A) → HasText shown l m P → A
  from_text shows.Output P more has = more has.text has.holds
  from_text shows.Journal P more has = more has.text has.holds
  from_text (shows.Load seed) P more has = more (load_script seed) has.1

  pub text_of_script : (shown : Shown) (nodes : ℕ) (script : Script) (P : Script → Type 0) → HasText shown l m (λ text. script_of nodes text ≡ Ok script) → P script → HasText shown l m (OfScript nodes P)
  text_of_script shown nodes script P has holds = map_text shown (λ text. script_of nodes text ≡ Ok script) (OfScript nodes P) (λ text read. record { script = script; read = read; holds = holds }) has

  -- a script that was read fits, and no client of it sits at two nodes
  pub text_fits : (shown : Shown) (nodes : ℕ) (script : Script) → 1 ≤ nodes → nodes ≤ 16 → ((nodes : ℕ) (text : List ℕ) (read : Script) → ScriptFits nodes text read) → HasText shown l m (λ text. script_of nodes text ≡ Ok script) → Fits nodes script
  text_fits shown nodes script some few fits has = from_text shown (λ text. script_of nodes text ≡ Ok script) (λ text read. fits nodes text script some few read) has

  pub text_sits_once : (shown : Shown) (nodes : ℕ) (script : Script) → ((nodes : ℕ) (text : List ℕ) (script : Script) → ReadSitOnce nodes text script) → HasText shown l m (λ text. script_of nodes text ≡ Ok script) → SitOnce script.seats
  text_sits_once shown nodes script reads has = from_text shown (λ text. script_of nodes text ≡ Ok script) (λ text read. reads nodes text script read) has
