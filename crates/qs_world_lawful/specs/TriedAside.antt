-- What an entry of another node has to find, tried on the states of runs: each note that files issued is noted or waited for; and what is unanimous
-- and open, as its home is cut off behind its Commit, stays so while that is down.
use Rattle.std.specs.Prelude.{◌≡◌, ℕ, zero, suc, Bool, true, false, not, ◌&&◌, ◌||◌, List, [], ◌∷◌, take, drop, fold, None, Some}
use Rattle.std.specs.Global.{Global}
use Rattle.std.specs.List.{list_all, list_any}
use Rattle.qs_base.specs.declared.identifiers.Tid.{Tid}
use Rattle.qs_book_machine.specs.Book.{BookValue, find_transaction}
use Rattle.qs_book_machine.specs.Clauses.{note_text}
use Rattle.qs_book_machine.specs.Lawful.{book_after}
use Rattle.qs_book_machine.specs.Transaction.{TransactionValue, is_open, is_unanimous}
use Rattle.qs_node_step.specs.State.{NodeValue}
use Rattle.qs_tm.specs.Participant.{awaits_note, has_noted}
use Rattle.qs_world.specs.Driven.{Know, Stage, Take, cut, make, rounds_of, stop, up_to}
use Rattle.qs_world.specs.DrivenRuns.{late}
use Rattle.qs_world.specs.Faults.{both}
use Rattle.qs_world.specs.Histories.{book_of}
use Rattle.qs_world.specs.World.{Opening, World, start}
use Rattle.qs_world_lawful.specs.Beside.{has_issued}
use Rattle.qs_world_lawful.specs.Face.{face_of, is_held, part_in}
use Rattle.qs_world_lawful.specs.Tried.{rich}

abbrev book_in : Opening → World → BookValue
book_in o world = book_after (book_of o) world.journal

abbrev after_stages : Opening → ℕ → ℕ → World
after_stages o clients n = fold make (start o) (take n (rounds_of o.size clients 16))

-- ---- notes

abbrev note_ok : NodeValue → Tid → TransactionValue → ℕ → Bool
note_ok node tid tx count =
    not (has_issued tx node.setting.node node.setting.inc (note_text tid node.setting.node.0 (suc count)))
    || (has_noted (suc count) (part_in (face_of node tid)) || awaits_note (part_in (face_of node tid)))

abbrev notes_ok : NodeValue → Tid × TransactionValue → Bool
notes_ok node entry = not (is_held entry.1 (face_of node entry.0)) || list_all (note_ok node entry.0 entry.1) (up_to 3)

abbrev issued_ok : Opening → World → Bool
issued_ok o world = list_all (λ (n : ℕ). not (world.channels.up n) || list_all (notes_ok (world.hosts n).node) (book_in o world).transactions) (up_to o.size)

abbrev walk : Opening → World → List Stage → Bool
walk o world [] = issued_ok o world
walk o world (stage ∷ stages) = issued_ok o world && walk o (make world stage) stages

abbrev pub issued_in : Opening → ℕ → ℕ → ℕ → Bool
issued_in o clients first count = walk o (after_stages o clients first) (take count (drop first (rounds_of o.size clients 16)))

-- ---- what is unanimous at a home that is down

abbrev waits_for_home : World → Tid × TransactionValue → Bool
waits_for_home world entry = not (world.channels.up entry.0.home.0) && (is_open entry.1.cell && is_unanimous entry.1)

abbrev is_still : BookValue → Tid → Bool
is_still book tid = elim (find_transaction book tid) [ None ↦ false | Some tx ↦ is_unanimous tx ]

abbrev stays : Opening → World → World → Bool
stays o was world = list_all (λ (entry : Tid × TransactionValue). not (waits_for_home was entry) || is_still (book_in o world) entry.0) (book_in o was).transactions

abbrev cut_stage : World → Stage → World
cut_stage world (Know n m) = stop n world
cut_stage world (Take n source) = cut n source true world

abbrev walk_down : Opening → ℕ → ℕ → World → List Stage → Bool
walk_down o more zero world stages = true
walk_down o more (suc count) world [] = true
walk_down o more (suc count) world (stage ∷ stages) = stays o (cut_stage world stage) (fold make (cut_stage world stage) (take more stages)) && walk_down o more count (make world stage) stages

abbrev pub stays_in : Opening → ℕ → ℕ → ℕ → ℕ → Bool
stays_in o clients more first count = walk_down o more count (after_stages o clients first) (drop first (rounds_of o.size clients 16))

-- there is such a state among these
abbrev walk_some : Opening → ℕ → World → List Stage → Bool
walk_some o zero world stages = false
walk_some o (suc count) world [] = false
walk_some o (suc count) world (stage ∷ stages) = list_any (waits_for_home (cut_stage world stage)) (book_in o (cut_stage world stage)).transactions || walk_some o count (make world stage) stages

abbrev pub some_in : Opening → ℕ → ℕ → ℕ → Bool
some_in o clients first count = walk_some o count (after_stages o clients first) (drop first (rounds_of o.size clients 16))

pub record TriedAside (alloc : Global) : Type 0 where
  pub early : issued_in (rich alloc) 3 0 100 ≡ true
  pub later : issued_in (rich alloc) 3 300 60 ≡ true
  pub two : stays_in (both alloc) 1 12 0 120 ≡ true
  pub late_join : stays_in (late alloc) 2 20 60 80 ≡ true
  pub there : some_in (both alloc) 1 0 120 ≡ true
