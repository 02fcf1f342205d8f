-- A log that has a Commit still to be told has it among its Commits.
use Rattle.qs_world_lawful.proofs.Words.{◌≡◌, Bool, true, List, [], ◌∷◌, ◌++◌, fold, not, if◌then◌else◌, NodeNo, Tid, is_among, Record, Recovery, Untold, found_commit, found_record, is_untold_of, names_transaction, nothing_said, recovery, Every}
use Rattle.qs_record.specs.declared.record.Record.TheVariants as records
use Rattle.qs_world_lawful.proofs.LogFrames.{every_on}
use Rattle.qs_world_lawful.proofs.LogRecords.{among_last, among_more, every_append, every_filter}
use Rattle.qs_world_lawful.proofs.TakenCommits.{IsListed}

abbrev AreListed : Recovery → Type 0
AreListed said = Every (IsListed said.committed) said.untold

more_listed : (done : List Tid) (tid : Tid) (b : Bool) (commits : List Untold) → Every (IsListed done) commits → Every (IsListed (done ++ (if b then tid ∷ [] else []))) commits
more_listed done tid b commits h = every_on (IsListed done) (IsListed (done ++ (if b then tid ∷ [] else []))) (λ c is named. among_more done (if b then tid ∷ [] else []) c.tid (is named)) commits h

commit_listed : (tid : Tid) (told : List NodeNo) (said : Recovery) → AreListed said → AreListed (found_commit tid told said)
commit_listed tid [] said h = every_filter (IsListed (said.committed ++ (if names_transaction tid then tid ∷ [] else []))) (λ commit. not (is_untold_of tid commit)) said.untold (more_listed said.committed tid (names_transaction tid) said.untold h)
commit_listed tid (first ∷ more) said h = every_append (IsListed (said.committed ++ (if names_transaction tid then tid ∷ [] else []))) said.untold (record { tid = tid; told = first ∷ more } ∷ []) (more_listed said.committed tid (names_transaction tid) said.untold h) (own, tt)
  where
    own : names_transaction tid ≡ true → is_among (said.committed ++ (if names_transaction tid then tid ∷ [] else [])) tid ≡ true
    own named = rw named (among_last said.committed tid)

record_listed : (said : Recovery) (rec : Record) → AreListed said → AreListed (found_record said rec)
record_listed said (records.Prepare tid server covers changes) h = h
record_listed said (records.Commit tid told) h = commit_listed tid told said h
record_listed said (records.Aborted tid) h = every_filter (IsListed said.committed) (λ commit. not (is_untold_of tid commit)) said.untold h
record_listed said (records.End tid) h = every_filter (IsListed said.committed) (λ commit. not (is_untold_of tid commit)) said.untold h

all_listed : (log : List Record) (said : Recovery) → AreListed said → AreListed (fold found_record said log)
all_listed [] said h = h
all_listed (rec ∷ log) said h = all_listed log (found_record said rec) (record_listed said rec h)

pub untold_listed : (log : List Record) → Every (IsListed (recovery log).committed) (recovery log).untold
untold_listed log = all_listed log nothing_said tt
