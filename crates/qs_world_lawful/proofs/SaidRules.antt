-- The rules of a step that make no record, or only the end of a transaction's records, leave what the log says of contents and changes.
use Rattle.qs_world_lawful.proofs.Words.{◌≡◌, ℕ, ◌++◌, List, [], ◌∷◌, sym, ap, subst, Act, Inv, BookValue, IsLawful, book_after, effect, Record, Recovery, found_record, recovery, Work, here, entries_of, entry_of, book_at, entries_so_far, IsPlain, Every, IsEnd, SaidAfter, SaidAt}
use Rattle.qs_book_laws.proofs.Steps.{stepped}
use Rattle.qs_record.specs.declared.record.Record.TheVariants as made
use Rattle.qs_world_lawful.proofs.LogKeeps.{book_is, inv_at, lawful_before, lawful_since}
use Rattle.qs_world_lawful.proofs.LogMarks.{one_more}
use Rattle.qs_world_lawful.proofs.SaidEntries.{plain_enters_at}
use Rattle.qs_world_lawful.proofs.SaidPairs.{end_keeps_said}

-- entries that put nothing on record and take nothing off
pub all_plain : (stamp here : ℕ) (acts : List Act) (book : BookValue) → Inv book → Every IsPlain acts → IsLawful book (entries_of here stamp acts) → (log : Recovery) → SaidAfter here book log → SaidAfter here (book_after book (entries_of here stamp acts)) log
all_plain stamp here [] book i plain lawful log said = said
all_plain stamp here (act ∷ acts) book i plain lawful log said =
    all_plain stamp here acts (effect book (entry_of here stamp act)) (stepped book (entry_of here stamp act) i lawful.0).inv plain.1 lawful.1 log
    (plain_enters_at book i stamp here said.state act log said.there plain.0 lawful.0 said.said)

module _ (before : BookValue) (i : Inv before) (stamp : ℕ) (disk waiting : List Record) (work new : Work) (more : List Act) (grows : new.out.entries ≡ work.out.entries ++ more) (plain : Every IsPlain more) (setting : new.node.setting ≡ work.node.setting)
    (lawful : IsLawful before (entries_so_far stamp new)) (said : SaidAt stamp before disk waiting work) where
  abbrev at : ℕ
  at = (here work).0

  abbrev log : Recovery
  log = recovery (disk ++ (waiting ++ work.out.records))

  entered : SaidAfter (here new).0 (book_at stamp before new) log
  entered = subst (λ (n : ℕ). SaidAfter n (book_at stamp before new) log) (sym (ap (λ s. s.node.0) setting))
      (subst (λ (book : BookValue). SaidAfter at book log) (sym (book_is stamp before i disk waiting work new more grows setting))
      (all_plain stamp at more (book_at stamp before work) (inv_at stamp before i disk waiting work (lawful_before stamp before i disk waiting work new more grows setting lawful)) plain (lawful_since stamp before i disk waiting work new more grows setting lawful) log said))

  pub quiet_says : new.out.records ≡ work.out.records → SaidAt stamp before disk waiting new
  quiet_says same = subst (λ (records : List Record). SaidAfter (here new).0 (book_at stamp before new) (recovery (disk ++ (waiting ++ records)))) (sym same) entered

  ended : (rec : Record) → IsEnd rec → SaidAfter (here new).0 (book_at stamp before new) (found_record log rec)
  ended (made.Aborted tid) is = record { state = entered.state; there = entered.there; said = end_keeps_said (here new).0 (book_at stamp before new) entered.state log tid entered.said }
  ended (made.End tid) is = record { state = entered.state; there = entered.there; said = end_keeps_said (here new).0 (book_at stamp before new) entered.state log tid entered.said }
  ended (made.Prepare tid server covers changes) is = elim is [ ]
  ended (made.Commit tid told) is = elim is [ ]

  pub end_says : (rec : Record) → IsEnd rec → new.out.records ≡ work.out.records ++ rec ∷ [] → SaidAt stamp before disk waiting new
  end_says rec is same = subst (λ (records : List Record). SaidAfter (here new).0 (book_at stamp before new) (recovery (disk ++ (waiting ++ records)))) (sym same)
      (subst (SaidAfter (here new).0 (book_at stamp before new)) (sym (one_more disk waiting work.out.records rec)) (ended rec is))
