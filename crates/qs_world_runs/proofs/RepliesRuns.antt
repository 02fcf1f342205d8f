-- What was posted and what waits says of numbers that were given, and of requests that were served, stays so through each move.
use Rattle.qs_world_runs.proofs.Words.{◌≡◌, Option, Some, None, refl, Event, book_of, Cut, Meet, Rise, Step, Stop, event_of, step_with, book_in, entries_in, RepliesAt}
use Rattle.qs_book_machine.specs.Lawful.{IsLawful}
use Rattle.qs_world_runs.specs.RepliesRuns.{MovesKeepReplies}
use Rattle.qs_world_runs.proofs.JoinedParts.{lawful_more}
use Rattle.qs_world_runs.proofs.RepliesMoves.{between_keep_replies}
use Rattle.qs_world_runs.proofs.RepliesSteps.{step_keeps_replies}
use Rattle.qs_world_runs.proofs.StepTells.{each_step_tells}

pub moves_keep_replies : MovesKeepReplies
moves_keep_replies o world (Step n stamp free source) j h may lawful = by (event_of world n stamp source) refl lawful
  where
    by : (e : Option Event) → event_of world n stamp source ≡ e → IsLawful (book_of o) (step_with world n stamp free source e).journal → RepliesAt o (step_with world n stamp free source e)
    by None none whole = h
    by (Some event) comes whole = step_keeps_replies o world n stamp free source event j h its (each_step_tells o world n stamp free source event j h (record { may = may; comes = comes }) its)
      where
        its : IsLawful (book_in o world) (entries_in world n stamp free event)
        its = lawful_more o world (step_with world n stamp free source (Some event)) (entries_in world n stamp free event) refl whole
moves_keep_replies o world (Cut n stamp free source is_kept cause) j h may lawful = between_keep_replies o world (Cut n stamp free source is_kept cause) tt j h may lawful
moves_keep_replies o world (Stop n stamp cause) j h may lawful = between_keep_replies o world (Stop n stamp cause) tt j h may lawful
moves_keep_replies o world (Rise n stamp inc) j h may lawful = between_keep_replies o world (Rise n stamp inc) tt j h may lawful
moves_keep_replies o world (Meet n stamp m inc) j h may lawful = between_keep_replies o world (Meet n stamp m inc) tt j h may lawful
