-- Every run keeps the rules of files: from the course as its script begins it, each entry of its journal breaks none.
use Rattle.qs_book_conformance.specs.Begun.{at_start}
use Rattle.qs_book_script.specs.declared.script.Script.{Script}
use Rattle.std.specs.Prelude.{◌≡◌, List, None}
use Rattle.qs_world.specs.Histories.{book_of}
use Rattle.qs_world.specs.Moves.{Move}
use Rattle.qs_world.specs.Openings.{IsOpening}
use Rattle.qs_world.specs.Runs.{Run}
use Rattle.qs_world.specs.World.{Opening, World, start}
use Rattle.qs_world_course.specs.Kinds.{Keeps, RuleOf, filed}
use Rattle.qs_world_opening.specs.CourseScripts.{IsScriptOf}

abbrev pub EachRunKeeps : RuleOf → Type 0
EachRunKeeps rule = (o : Opening) (script : Script) (moves : List Move) (new : World) → IsOpening o → IsScriptOf o script → Run (start o) moves new → Keeps rule (at_start script (book_of o)) new.journal

-- where the script names no node for notes
abbrev pub RunsWithoutAudit : Type 0
RunsWithoutAudit = (o : Opening) (script : Script) (moves : List Move) (new : World) → script.audit ≡ None → IsOpening o → IsScriptOf o script → Run (start o) moves new → Keeps filed (at_start script (book_of o)) new.journal
