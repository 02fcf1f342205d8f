-- Rules in a row: what a log says goes on by each, and so by all; where a rule writes at most the end of records, it does so by the rule alone.
use Rattle.qs_world_lawful.proofs.Words.{◌≡◌, ℕ, Bool, true, false, List, [], ◌∷◌, ◌++◌, Option, Some, None, refl, sym, ap, subst, ◌∙◌, append_assoc, fold, if◌then◌else◌, fold-append, Tid, Act, Inv, BookValue, IsLawful, Record, Recovery, found_record, nothing_said, recovery, where_undecided, Work, here, is_undecided, Participant, book_at, entries_so_far, HoldsLogs, IsPlain, KeepsLogs, Every, IsEnd, SaidAfter, SaidAt, none_is}
use Rattle.qs_record.specs.declared.record.Record.TheVariants as made
use Rattle.qs_node_step.specs.State.{part_of}
use Rattle.qs_world_lawful.proofs.LogKeeps.{book_is, by_quiet, inv_at, keeps_self, keeps_then, lawful_before, lawful_since}
use Rattle.qs_world_lawful.proofs.Recordless.{Quiet}
use Rattle.qs_world_lawful.proofs.SaidEnds.{EndsOnly, ends_quiet}
use Rattle.qs_world_lawful.proofs.SaidPairs.{end_keeps_said}
use Rattle.qs_world_lawful.proofs.SaidRules.{all_plain}

-- in the middle of a step: what the log will say with its records, and what the disk says where nothing forces it
pub record SaysAmid (stamp : ℕ) (before : BookValue) (disk waiting : List Record) (work : Work) : Type 0 where
  pub all : SaidAt stamp before disk waiting work
  pub on_disk : work.out.force ≡ false → SaidAfter (here work).0 (book_at stamp before work) (recovery disk)

-- a rule keeps what is held of the log, and where its entries are lawful, what the log says before is so after it
pub record Says (stamp : ℕ) (before : BookValue) (disk waiting : List Record) (work new : Work) : Type 0 where
  pub logs : KeepsLogs stamp before disk waiting work new
  pub says : IsLawful before (entries_so_far stamp new) → HoldsLogs stamp before disk waiting work → SaysAmid stamp before disk waiting work → SaysAmid stamp before disk waiting new

-- ---- the end of records

said_ended : (n : ℕ) (book : BookValue) (rec : Record) → IsEnd rec → (log : Recovery) → SaidAfter n book log → SaidAfter n book (found_record log rec)
said_ended n book (made.Aborted tid) is log said = record { state = said.state; there = said.there; said = end_keeps_said n book said.state log tid said.said }
said_ended n book (made.End tid) is log said = record { state = said.state; there = said.there; said = end_keeps_said n book said.state log tid said.said }
said_ended n book (made.Prepare tid server covers changes) is log said = absurd is
said_ended n book (made.Commit tid told) is log said = absurd is

said_all_ended : (n : ℕ) (book : BookValue) (records : List Record) → Every IsEnd records → (log : Recovery) → SaidAfter n book log → SaidAfter n book (fold found_record log records)
said_all_ended n book [] all log said = said
said_all_ended n book (rec ∷ records) all log said = said_all_ended n book records all.1 (found_record log rec) (said_ended n book rec all.0 log said)

many_more : (disk waiting records more : List Record) → recovery (disk ++ (waiting ++ (records ++ more))) ≡ fold found_record (recovery (disk ++ (waiting ++ records))) more
many_more disk waiting records more =
    ap recovery (ap (λ (rs : List Record). disk ++ rs) (sym (append_assoc waiting records more)) ∙ sym (append_assoc disk (waiting ++ records) more))
    ∙ fold-append found_record nothing_said (disk ++ (waiting ++ records)) more

module _ (stamp : ℕ) (before : BookValue) (i : Inv before) (disk waiting : List Record) where
  abbrev Goes : Work → Work → Type 0
  Goes work new = Says stamp before disk waiting work new

  -- entries that put nothing on record leave what any log says
  said_plain : (work new : Work) (more : List Act) → new.out.entries ≡ work.out.entries ++ more → Every IsPlain more → new.node.setting ≡ work.node.setting → IsLawful before (entries_so_far stamp new) → (log : Recovery)
      → SaidAfter (here work).0 (book_at stamp before work) log → SaidAfter (here new).0 (book_at stamp before new) log
  said_plain work new more grows plain setting lawful log said =
      subst (λ (n : ℕ). SaidAfter n (book_at stamp before new) log) (sym (ap (λ s. s.node.0) setting))
      (subst (λ (book : BookValue). SaidAfter (here work).0 book log) (sym (book_is stamp before i disk waiting work new more grows setting))
      (all_plain stamp (here work).0 more (book_at stamp before work) (inv_at stamp before i disk waiting work (lawful_before stamp before i disk waiting work new more grows setting lawful)) plain (lawful_since stamp before i disk waiting work new more grows setting lawful) log said))

  pub says_ends : (work new : Work) → KeepsLogs stamp before disk waiting work new → EndsOnly work new → Goes work new
  says_ends work new keeps e = record {
    logs = keeps;
    says = λ lawful h s.
        let now : SaidAfter (here new).0 (book_at stamp before new) (recovery (disk ++ (waiting ++ work.out.records))) = said_plain work new e.more e.entries e.plain e.setting lawful (recovery (disk ++ (waiting ++ work.out.records))) s.all in
        record {
          all = subst (SaidAfter (here new).0 (book_at stamp before new)) (sym (ap (λ (rs : List Record). recovery (disk ++ (waiting ++ rs))) e.records ∙ many_more disk waiting work.out.records e.made))
              (said_all_ended (here new).0 (book_at stamp before new) e.made e.ends (recovery (disk ++ (waiting ++ work.out.records))) now);
          on_disk = λ unforced. said_plain work new e.more e.entries e.plain e.setting lawful (recovery disk) (s.on_disk (sym e.force ∙ unforced));
        };
  }

  pub says_quiet : (work new : Work) → Quiet work new → Goes work new
  says_quiet work new q = says_ends work new (by_quiet stamp before i disk waiting work new q) (ends_quiet work new q)

  pub says_self : (work : Work) → Goes work work
  says_self work = record { logs = keeps_self stamp before i disk waiting work; says = λ lawful h s. s }

  pub says_then : (work mid new : Work) → Goes work mid → Goes mid new → Goes work new
  says_then work mid new a b = record {
    logs = keeps_then stamp before i disk waiting work mid new a.logs b.logs;
    says = λ lawful h s.
        let first : IsLawful before (entries_so_far stamp mid) = lawful_before stamp before i disk waiting mid new b.logs.more b.logs.entries b.logs.setting lawful in
        b.says lawful (a.logs.keeps first h) (a.says first h s);
  }

  pub says_if : (b : Bool) (work x y : Work) → (b ≡ true → Goes work x) → (b ≡ false → Goes work y) → Goes work (if b then x else y)
  says_if true work x y p q = p refl
  says_if false work x y p q = q refl

  pub says_where : (tid : Tid) (rule : Participant → Work → Work) (work : Work) → ((part : Participant) → part_of tid work ≡ Some part → part.outcome ≡ None → Goes work (rule part work)) → Goes work (where_undecided tid rule work)
  says_where tid rule work each = by (part_of tid work) refl
    where
      undecided : (part : Participant) → is_undecided part ≡ true → part.outcome ≡ None
      undecided part is = none_is part.outcome is

      of : (part : Participant) → part_of tid work ≡ Some part → (b : Bool) → is_undecided part ≡ b → Goes work (if b then rule part work else work)
      of part known true is = each part known (undecided part is)
      of part known false is = says_self work

      by : (o : Option Participant) → part_of tid work ≡ o → Goes work (elim o [ None ↦ work | Some part ↦ if is_undecided part then rule part work else work ])
      by None is = says_self work
      by (Some part) is = of part is (is_undecided part) refl
