-- What a status says of how a run ended, and of what it tells.
use Rattle.std.proofs.Common.{◌≡◌, ◌⊎◌, inl, inr, ℕ, Bool, List, [], ◌∷◌, true, false, ap}
use Rattle.std.specs.Prelude.{⊤}
use Rattle.qs_base.specs.declared.identifiers.NodeNo.{NodeNo}
use Rattle.qs_book_script.specs.declared.status.Status.{Status}
use Rattle.qs_book_script.specs.declared.status.Status.TheVariants as statuses
use Rattle.qs_book_script.specs.declared.status.Waiting.{Waiting}
use Rattle.qs_top.specs.Ends.{status_of}
use Rattle.qs_top.specs.Inner.Giving.{IsNoScript}
use Rattle.qs_top.specs.Verdicts.{IsRefusal}
use Rattle.qs_top.specs.Statuses.{Gives, IsEnd, IsOfRounds, IsOfRun, Tells}

-- a run came to its end or it did not
pub end_or : (status : Status) → IsEnd status ⊎ (IsEnd status → ⊥)
end_or statuses.Finished = inl tt
end_or (statuses.Unfinished rounds waiting) = inl tt
end_or statuses.Usage = inr (λ e. e)
end_or (statuses.Script line fault) = inr (λ e. e)
end_or statuses.ReadFault = inr (λ e. e)
end_or statuses.WriteFault = inr (λ e. e)
end_or (statuses.DiskFault node) = inr (λ e. e)
end_or (statuses.Damaged node at) = inr (λ e. e)
end_or statuses.NoMemory = inr (λ e. e)
end_or (statuses.NoRoom node need room) = inr (λ e. e)
end_or (statuses.Unlawful line clause) = inr (λ e. e)
end_or (statuses.Journal line) = inr (λ e. e)
end_or (statuses.LastGeneration node) = inr (λ e. e)

-- what the judge refuses has the status of a run, and tells nothing
pub refusal_built : (status : Status) → IsRefusal status → IsOfRounds status
refusal_built (statuses.Unlawful line clause) r = tt
refusal_built statuses.NoMemory r = tt
refusal_built statuses.Finished r = absurd r
refusal_built (statuses.Unfinished rounds waiting) r = absurd r
refusal_built statuses.Usage r = absurd r
refusal_built (statuses.Script line fault) r = absurd r
refusal_built statuses.ReadFault r = absurd r
refusal_built statuses.WriteFault r = absurd r
refusal_built (statuses.DiskFault node) r = absurd r
refusal_built (statuses.Damaged node at) r = absurd r
refusal_built (statuses.NoRoom node need room) r = absurd r
refusal_built (statuses.Journal line) r = absurd r
refusal_built (statuses.LastGeneration node) r = absurd r

pub end_built : (status : Status) → IsEnd status → IsOfRounds status
end_built statuses.Finished e = tt
end_built (statuses.Unfinished rounds waiting) e = tt
end_built statuses.Usage e = absurd e
end_built (statuses.Script line fault) e = absurd e
end_built statuses.ReadFault e = absurd e
end_built statuses.WriteFault e = absurd e
end_built (statuses.DiskFault node) e = absurd e
end_built (statuses.Damaged node at) e = absurd e
end_built statuses.NoMemory e = absurd e
end_built (statuses.NoRoom node need room) e = absurd e
end_built (statuses.Unlawful line clause) e = absurd e
end_built (statuses.Journal line) e = absurd e
end_built (statuses.LastGeneration node) e = absurd e

pub status_ends : (rounds : ℕ) (settled : Bool) (waiting : List Waiting) → IsEnd (status_of rounds settled waiting)
status_ends rounds true [] = tt
status_ends rounds true (one ∷ more) = tt
status_ends rounds false waiting = tt

-- an end is no refusal
pub end_refuses : (status : Status) → IsEnd status → IsRefusal status → ⊥
end_refuses statuses.Finished e r = r
end_refuses (statuses.Unfinished rounds waiting) e r = r
end_refuses statuses.Usage e r = e
end_refuses (statuses.Script line fault) e r = e
end_refuses statuses.ReadFault e r = e
end_refuses statuses.WriteFault e r = e
end_refuses (statuses.DiskFault node) e r = e
end_refuses (statuses.Damaged node at) e r = e
end_refuses statuses.NoMemory e r = e
end_refuses (statuses.NoRoom node need room) e r = e
end_refuses (statuses.Unlawful line clause) e r = e
end_refuses (statuses.Journal line) e r = e
end_refuses (statuses.LastGeneration node) e r = e

-- what came to its end had a script
pub end_has_script : (status : Status) → IsEnd status → IsNoScript status → ⊥
end_has_script statuses.Finished e none = none
end_has_script (statuses.Unfinished rounds waiting) e none = none
end_has_script statuses.Usage e none = e
end_has_script (statuses.Script line fault) e none = e
end_has_script statuses.ReadFault e none = e
end_has_script statuses.WriteFault e none = e
end_has_script (statuses.DiskFault node) e none = e
end_has_script (statuses.Damaged node at) e none = e
end_has_script statuses.NoMemory e none = e
end_has_script (statuses.NoRoom node need room) e none = e
end_has_script (statuses.Unlawful line clause) e none = e
end_has_script (statuses.Journal line) e none = e
end_has_script (statuses.LastGeneration node) e none = e

pub status_tells : (rounds : ℕ) (settled : Bool) (waiting : List Waiting) → Tells (status_of rounds settled waiting)
status_tells rounds true [] = tt
status_tells rounds true (one ∷ more) = tt
status_tells rounds false waiting = tt

-- a fault of a disk
abbrev pub IsFaultStatus : Status → Type 0
IsFaultStatus (statuses.DiskFault node) = ⊤
IsFaultStatus _ = ⊥

abbrev fault_node : Status → NodeNo
fault_node (statuses.DiskFault node) = node
fault_node _ = record { 0 = 0 }

pub same_node : {m n : NodeNo} → statuses.DiskFault m ≡ statuses.DiskFault n → m ≡ n
same_node is = ap fault_node is

-- something is given at an end, and what comes of the rounds is what a run comes to
pub end_gives : (status : Status) → IsEnd status → Gives status
end_gives statuses.Finished e = tt
end_gives (statuses.Unfinished rounds waiting) e = tt
end_gives statuses.Usage e = absurd e
end_gives (statuses.Script line fault) e = absurd e
end_gives statuses.ReadFault e = absurd e
end_gives statuses.WriteFault e = absurd e
end_gives (statuses.DiskFault node) e = absurd e
end_gives (statuses.Damaged node at) e = absurd e
end_gives statuses.NoMemory e = absurd e
end_gives (statuses.NoRoom node need room) e = absurd e
end_gives (statuses.Unlawful line clause) e = absurd e
end_gives (statuses.Journal line) e = absurd e
end_gives (statuses.LastGeneration node) e = absurd e

pub rounds_of_run : (status : Status) → IsOfRounds status → IsOfRun status
rounds_of_run statuses.Finished r = tt
rounds_of_run (statuses.Unfinished rounds waiting) r = tt
rounds_of_run statuses.Usage r = absurd r
rounds_of_run (statuses.Script line fault) r = absurd r
rounds_of_run statuses.ReadFault r = absurd r
rounds_of_run statuses.WriteFault r = absurd r
rounds_of_run (statuses.DiskFault node) r = tt
rounds_of_run (statuses.Damaged node at) r = tt
rounds_of_run statuses.NoMemory r = tt
rounds_of_run (statuses.NoRoom node need room) r = absurd r
rounds_of_run (statuses.Unlawful line clause) r = tt
rounds_of_run (statuses.Journal line) r = absurd r
rounds_of_run (statuses.LastGeneration node) r = absurd r
