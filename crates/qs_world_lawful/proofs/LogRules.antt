-- The rules that make records: what is held of the log with them.
use Rattle.qs_world_lawful.proofs.Words.{◌≡◌, ℕ, Bool, false, List, [], ◌∷◌, ◌++◌, Some, refl, sym, ap, subst, slice_get, Act, BookValue, book_after, Inv, Record, Recovery, recovery, found_record, Manager, Work, here, entries_of, book_at, Later, IsNamed, HoldsLogged, KnowsLog, HoldsLogs}
use Rattle.qs_book_machine.specs.Nodes as machine
use Rattle.qs_world_lawful.proofs.LogKeeps.{later_then, amid_on, book_is}
use Rattle.qs_world_lawful.proofs.LogMarks.{one_more}

-- what the machine is after the entries of a rule, and what the node's log says of it with its record
pub record LoggedWith (here : ℕ) (old new : BookValue) (manager : Manager) (log disk : Recovery) (force : Bool) : Type 0 where
  pub later : Later old new
  pub named : IsNamed new
  pub next : machine.NodeValue
  pub there : slice_get new.nodes here ≡ Some next
  pub all : HoldsLogged here new next log
  pub knows : KnowsLog new manager log
  pub on_disk : force ≡ false → HoldsLogged here new next disk
  pub alike : force ≡ false → log.committed ≡ disk.committed

module _ (stamp : ℕ) (before : BookValue) (i : Inv before) (disk waiting : List Record) where
  abbrev pub log_of : Work → Recovery
  log_of work = recovery (disk ++ (waiting ++ work.out.records))

  -- what is held after a rule with these entries
  abbrev pub HeldWith : Work → Work → List Act → Recovery → Type 0
  HeldWith work new more log = LoggedWith (here work).0 (book_at stamp before work) (book_after (book_at stamp before work) (entries_of (here work).0 stamp more)) new.node.manager log (recovery disk) new.out.force

  held_as : (work new : Work) → HoldsLogs stamp before disk waiting work → (more : List Act) → new.out.entries ≡ work.out.entries ++ more → new.node.setting ≡ work.node.setting → (records : List Record) → new.out.records ≡ records
      → HeldWith work new more (recovery (disk ++ (waiting ++ records))) → HoldsLogs stamp before disk waiting new
  held_as work new h more grows same records made r =
      amid_on stamp before i disk waiting (here work).0 (here new).0 (ap (λ s. s.node.0) same) (book_after (book_at stamp before work) (entries_of (here work).0 stamp more)) (book_at stamp before new) (book_is stamp before i disk waiting work new more grows same)
      records new.out.records made new.out.force new.out.force refl new.node.manager
      (record {
        since = later_then before (book_at stamp before work) (book_after (book_at stamp before work) (entries_of (here work).0 stamp more)) h.since r.later;
        state = r.next;
        there = r.there;
        named = r.named;
        all = r.all;
        knows = r.knows;
        on_disk = r.on_disk;
        alike = r.alike;
      })

  pub held_with : (work new : Work) → HoldsLogs stamp before disk waiting work → (more : List Act) → new.out.entries ≡ work.out.entries ++ more → new.node.setting ≡ work.node.setting → (rec : Record) → new.out.records ≡ work.out.records ++ rec ∷ []
      → HeldWith work new more (found_record (log_of work) rec) → HoldsLogs stamp before disk waiting new
  held_with work new h more grows same rec made r =
      held_as work new h more grows same (work.out.records ++ rec ∷ []) made (subst (HeldWith work new more) (sym (one_more disk waiting work.out.records rec)) r)

  pub held_without : (work new : Work) → HoldsLogs stamp before disk waiting work → (more : List Act) → new.out.entries ≡ work.out.entries ++ more → new.node.setting ≡ work.node.setting → new.out.records ≡ work.out.records
      → HeldWith work new more (log_of work) → HoldsLogs stamp before disk waiting new
  held_without work new h more grows same made r = held_as work new h more grows same work.out.records made r
