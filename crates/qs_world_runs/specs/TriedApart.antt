-- Who issued a request that stands at another node, tried on the states of runs: where its node gave that number in its present incarnation, it runs, is engaged,
-- and waits for that request; and a reply that is on its way to a present incarnation is of a request that it issued, and that stands no more. Also after steps that were cut off and restarts.
use Rattle.std.specs.Prelude.{◌≡◌, ℕ, zero, suc, ◌==◌, nat_le, Bool, true, false, not, ◌&&◌, ◌||◌, is_none, List, [], ◌∷◌, take, drop, fold}
use Rattle.std.specs.Global.{Global}
use Rattle.std.specs.List.{list_all, list_any}
use Rattle.qs_base.specs.Order.{same_tid}
use Rattle.qs_base.specs.declared.identifiers.Tid.{Tid}
use Rattle.qs_book_machine.specs.Book.{BookValue}
use Rattle.qs_book_machine.specs.Lawful.{book_after}
use Rattle.qs_book_machine.specs.Transaction.{TransactionValue, is_open, sent_in, sent_on, standing_request}
use Rattle.qs_book_machine.specs.declared.transaction.Request.{Request}
use Rattle.qs_book_machine.specs.declared.transaction.RequestNo.{RequestNo}
use Rattle.qs_packet.specs.declared.message.Message.{Message}
use Rattle.qs_packet.specs.declared.message.Message.TheVariants as messages
use Rattle.qs_tm.specs.Manager as tm
use Rattle.qs_tm.specs.Participant.{is_answered_by}
use Rattle.qs_world.specs.Driven.{Know, Stage, Take, cut, make, rise, rounds_of, stop, up_to}
use Rattle.qs_world.specs.DrivenRuns.{late}
use Rattle.qs_world.specs.Faults.{both}
use Rattle.qs_world.specs.Histories.{book_of}
use Rattle.qs_world.specs.World.{Opening, Parcel, World, start}
use Rattle.qs_world_refine.specs.NodeFaces.{face_at}
use Rattle.qs_world_lawful.specs.Parcels.{way_between}
use Rattle.qs_world_lawful.specs.Tried.{rich}
use Rattle.qs_world_runs.specs.Placed.{sent_between}

-- the node waits for its reply
abbrev waits_for_it : World → ℕ → Tid → RequestNo → Request → Bool
waits_for_it world n tid at request = tm.told_of tid false (λ part. list_any (is_answered_by request.member at.number) part.waiting) (world.hosts n).node.manager

-- a request to another node that stands, of the present incarnation
abbrev is_away : World → TransactionValue → RequestNo → Request → Bool
is_away world tx at request =
    (not (at.link.to.0 == at.link.from.0) && not request.served) && (nat_le at.number (sent_in (world.channels.inc at.link.from.0) (sent_on tx at.link)) && (request.inc == world.channels.inc at.link.from.0))

abbrev request_ok : World → Tid → TransactionValue → RequestNo → Request → Bool
request_ok world tid tx at request = not (is_away world tx at request)
    || (not (world.channels.up at.link.from.0) || ((face_at (world.hosts at.link.from.0).node tid).on && waits_for_it world at.link.from.0 tid at request))

abbrev numbers_ok : World → Tid → TransactionValue → RequestNo × List Request → Bool
numbers_ok world tid tx entry = list_all (request_ok world tid tx entry.0) entry.1

abbrev tx_ok : World → Tid × TransactionValue → Bool
tx_ok world entry = not (is_open entry.1.cell) || list_all (numbers_ok world entry.0 entry.1) entry.1.requests

-- a reply on its way is of a number that its receiver gave, which stands at its member no more
abbrev tells_truly : World → ℕ → Message → Tid × TransactionValue → Bool
tells_truly world n (messages.Answered tid member number reply) entry = not (same_tid tid entry.0 && is_open entry.1.cell)
    || (is_none (standing_request entry.1 (way_between n member.node.0 number) member) && nat_le number (sent_in (world.channels.inc n) (sent_on entry.1 (way_between n member.node.0 number).link)))
tells_truly world n message entry = true

abbrev way_ok : World → List (Tid × TransactionValue) → ℕ → ℕ → Bool
way_ok world txs n m = list_all (λ (parcel : Parcel). list_all (tells_truly world n parcel.message) txs) (sent_between world m n)
    && not (list_any (λ (parcel : Parcel). is_reply parcel.message) (world.channels.waits m n))
  where
    is_reply : Message → Bool
    is_reply (messages.Answered tid member number reply) = true
    is_reply message = false

abbrev ways_ok : World → List (Tid × TransactionValue) → Bool
ways_ok world txs = list_all (λ (n : ℕ). not (world.channels.up n) || list_all (way_ok world txs n) (up_to world.size)) (up_to world.size)

abbrev apart_ok : BookValue → World → Bool
apart_ok first world = list_all (tx_ok world) (book_after first world.journal).transactions && ways_ok world (book_after first world.journal).transactions

abbrev after_stages : Opening → ℕ → ℕ → World
after_stages o clients n = fold make (start o) (take n (rounds_of o.size clients 16))

abbrev walk : BookValue → World → List Stage → Bool
walk first world [] = apart_ok first world
walk first world (stage ∷ stages) = apart_ok first world && walk first (make world stage) stages

-- after each of so many stages from one on
abbrev pub apart_in : Opening → ℕ → ℕ → ℕ → Bool
apart_in o clients first count = walk (book_of o) (after_stages o clients first) (take count (drop first (rounds_of o.size clients 16)))

-- the node of a stage stops, or is cut off in its step; it restarts, and so many stages follow
abbrev cut_stage : Bool → World → Stage → World
cut_stage is_kept world (Know n m) = stop n world
cut_stage is_kept world (Take n source) = cut n source is_kept world

abbrev risen : World → Stage → World
risen world (Know n m) = rise n world
risen world (Take n source) = rise n world

abbrev walk_down : Bool → ℕ → BookValue → ℕ → World → List Stage → Bool
walk_down is_kept more first zero world stages = true
walk_down is_kept more first (suc count) world [] = true
walk_down is_kept more first (suc count) world (stage ∷ stages) =
    walk first (risen (cut_stage is_kept world stage) stage) (take more stages) && walk_down is_kept more first count (make world stage) stages

abbrev pub apart_after : Opening → ℕ → Bool → ℕ → ℕ → ℕ → Bool
apart_after o clients is_kept more first count = walk_down is_kept more (book_of o) count (after_stages o clients first) (drop first (rounds_of o.size clients 16))

-- among those some such request stands
abbrev some_away : BookValue → World → Bool
some_away first world = list_any (λ (entry : Tid × TransactionValue). is_open entry.1.cell && list_any (λ (e : RequestNo × List Request). list_any (is_away world entry.1 e.0) e.1) entry.1.requests) (book_after first world.journal).transactions

abbrev walk_some : BookValue → World → List Stage → Bool
walk_some first world [] = some_away first world
walk_some first world (stage ∷ stages) = some_away first world || walk_some first (make world stage) stages

abbrev pub some_in : Opening → ℕ → ℕ → ℕ → Bool
some_in o clients first count = walk_some (book_of o) (after_stages o clients first) (take count (drop first (rounds_of o.size clients 16)))

pub record TriedApart (alloc : Global) : Type 0 where
  pub early : apart_in (rich alloc) 3 0 120 ≡ true
  pub later : apart_in (rich alloc) 3 120 160 ≡ true
  pub two : apart_in (both alloc) 1 0 120 ≡ true
  pub late_join : apart_in (late alloc) 2 90 80 ≡ true
  pub kept : apart_after (both alloc) 1 true 20 20 40 ≡ true
  pub lost : apart_after (rich alloc) 3 false 20 40 20 ≡ true
  pub there : some_in (rich alloc) 3 0 60 ≡ true
