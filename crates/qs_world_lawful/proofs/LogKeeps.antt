-- A rule keeps what is held of the log: where its entries are lawful, what held before it holds after it.
use Rattle.qs_world_lawful.proofs.Words.{◌≡◌, ℕ, Bool, List, [], ◌∷◌, ◌++◌, Some, refl, sym, ap, subst, ◌∙◌, append_assoc, append-nil, slice_get, Act, Entry, BookValue, IsLawful, book_after, effect, Inv, ran, after_both, lawful_front, lawful_rest, Record, Recovery, recovery, Manager, Work, here, entry_of, entries_of, entries_so_far, book_at, Every, Later, IsNamed, HoldsLogged, HoldsLogs, IsPlain, KeepsLogs}
use Rattle.qs_book_machine.specs.Nodes as machine
use Rattle.qs_book_laws.proofs.Steps.{stepped}
use Rattle.qs_world_lawful.specs.Logged.{HoldsAmid}
use Rattle.qs_world_lawful.proofs.LearntOn.{learnt_self, learnt_then}
use Rattle.qs_world_lawful.proofs.LogActs.{by_plain, acted_later, plain_begun}
use Rattle.qs_world_lawful.proofs.Marks.{KnowsOn, knows_on}
use Rattle.qs_world_lawful.proofs.NamedActs.{named_after}
use Rattle.qs_world_lawful.proofs.Recordless.{Quiet}

pub later_self : (book : BookValue) → Later book book
later_self book = record { aborted = λ tid is. is; committed = λ tid is. is; learnt = learnt_self book }

pub later_then : (old mid new : BookValue) → Later old mid → Later mid new → Later old new
later_then old mid new a b = record { aborted = λ tid is. b.aborted tid (a.aborted tid is); committed = λ tid is. b.committed tid (a.committed tid is); learnt = learnt_then old mid new a.learnt b.learnt }

pub map_both : (n stamp : ℕ) (acts more : List Act) → entries_of n stamp (acts ++ more) ≡ entries_of n stamp acts ++ entries_of n stamp more
map_both n stamp [] more = refl
map_both n stamp (act ∷ acts) more = ap (λ (es : List Entry). entry_of n stamp act ∷ es) (map_both n stamp acts more)

-- ---- acts that leave what the log says

pub record RanOn (here : ℕ) (old new : BookValue) (state : machine.NodeValue) : Type 0 where
  pub inv : Inv new
  pub later : Later old new
  pub named : IsNamed new
  pub next : machine.NodeValue
  pub there : slice_get new.nodes here ≡ Some next
  pub logged : (log : Recovery) → HoldsLogged here old state log → HoldsLogged here new next log

pub run_self : (here : ℕ) (book : BookValue) (state : machine.NodeValue) → Inv book → IsNamed book → slice_get book.nodes here ≡ Some state → RanOn here book book state
run_self here book state i named there = record { inv = i; later = later_self book; named = named; next = state; there = there; logged = λ log h. h }

pub run_then : (here : ℕ) (old mid new : BookValue) (state : machine.NodeValue) (a : RanOn here old mid state) → RanOn here mid new a.next → RanOn here old new state
run_then here old mid new state a b = record { inv = b.inv; later = later_then old mid new a.later b.later; named = b.named; next = b.next; there = b.there; logged = λ log h. b.logged log (a.logged log h) }

pub run_plain : (stamp here : ℕ) (acts : List Act) (book : BookValue) (state : machine.NodeValue) → Inv book → IsNamed book → slice_get book.nodes here ≡ Some state → Every IsPlain acts → IsLawful book (entries_of here stamp acts) → RanOn here book (book_after book (entries_of here stamp acts)) state
run_plain stamp here [] book state i named there plain lawful = run_self here book state i named there
run_plain stamp here (act ∷ acts) book state i named there plain lawful =
    let new : BookValue = effect book (entry_of here stamp act) in
    let one = by_plain book stamp here state i there act plain.0 lawful.0 in
    let first : RanOn here book new state = record {
      inv = (stepped book (entry_of here stamp act) i lawful.0).inv;
      later = acted_later book stamp here state i there act (plain_begun act plain.0) lawful.0;
      named = named_after book stamp here state there act (plain_begun act plain.0) lawful.0 named;
      next = one.state;
      there = one.there;
      logged = one.logged;
    } in
    run_then here book new (book_after new (entries_of here stamp acts)) state first (run_plain stamp here acts new one.state first.inv first.named one.there plain.1 lawful.1)

-- ---- rules

module _ (stamp : ℕ) (before : BookValue) (i : Inv before) (disk waiting : List Record) where
  abbrev Held : Work → Type 0
  Held work = HoldsLogs stamp before disk waiting work

  abbrev pub Keeps : Work → Work → Type 0
  Keeps work new = KeepsLogs stamp before disk waiting work new

  pub amid_on : (n m : ℕ) → m ≡ n → (book new : BookValue) → new ≡ book → (rs ss : List Record) → ss ≡ rs → (f g : Bool) → g ≡ f → (manager : Manager)
      → HoldsAmid before disk waiting n book manager rs f → HoldsAmid before disk waiting m new manager ss g
  amid_on n m a book new b rs ss c f g d manager h =
      subst (λ (k : ℕ). HoldsAmid before disk waiting k new manager ss g) (sym a)
      (subst (λ (x : BookValue). HoldsAmid before disk waiting n x manager ss g) (sym b)
      (subst (λ (x : List Record). HoldsAmid before disk waiting n book manager x g) (sym c)
      (subst (λ (x : Bool). HoldsAmid before disk waiting n book manager rs x) (sym d) h)))

  -- the entries that came
  abbrev came : Work → List Act → List Entry
  came work more = entries_of (here work).0 stamp more

  entries_are : (work new : Work) (more : List Act) → new.out.entries ≡ work.out.entries ++ more → new.node.setting ≡ work.node.setting → entries_so_far stamp new ≡ entries_so_far stamp work ++ came work more
  entries_are work new more grows same =
      ap (λ (n : ℕ). entries_of n stamp new.out.entries) (ap (λ s. s.node.0) same)
      ∙ (ap (entries_of (here work).0 stamp) grows ∙ map_both (here work).0 stamp work.out.entries more)

  pub lawful_before : (work new : Work) (more : List Act) → new.out.entries ≡ work.out.entries ++ more → new.node.setting ≡ work.node.setting → IsLawful before (entries_so_far stamp new) → IsLawful before (entries_so_far stamp work)
  lawful_before work new more grows same lawful = lawful_front (entries_so_far stamp work) (came work more) before (subst (IsLawful before) (entries_are work new more grows same) lawful)

  pub lawful_since : (work new : Work) (more : List Act) → new.out.entries ≡ work.out.entries ++ more → new.node.setting ≡ work.node.setting → IsLawful before (entries_so_far stamp new) → IsLawful (book_at stamp before work) (came work more)
  lawful_since work new more grows same lawful = lawful_rest (entries_so_far stamp work) (came work more) before (subst (IsLawful before) (entries_are work new more grows same) lawful)

  pub book_is : (work new : Work) (more : List Act) → new.out.entries ≡ work.out.entries ++ more → new.node.setting ≡ work.node.setting → book_at stamp before new ≡ book_after (book_at stamp before work) (came work more)
  book_is work new more grows same = ap (book_after before) (entries_are work new more grows same) ∙ after_both (entries_so_far stamp work) (came work more) before

  pub inv_at : (work : Work) → IsLawful before (entries_so_far stamp work) → Inv (book_at stamp before work)
  inv_at work lawful = (ran (entries_so_far stamp work) before i lawful).inv

  pub keeps_self : (work : Work) → Keeps work work
  keeps_self work = record { more = []; entries = sym (append-nil work.out.entries); setting = refl; keeps = λ lawful h. h }

  pub keeps_then : (work mid new : Work) → Keeps work mid → Keeps mid new → Keeps work new
  keeps_then work mid new a b = record {
    more = a.more ++ b.more;
    entries = b.entries ∙ (ap (λ (acted : List Act). acted ++ b.more) a.entries ∙ append_assoc work.out.entries a.more b.more);
    setting = b.setting ∙ a.setting;
    keeps = λ lawful h. b.keeps lawful (a.keeps (lawful_before mid new b.more b.entries b.setting lawful) h);
  }

  -- what is held after, where no record was made
  pub held_after : (work new : Work) → Held work → (more : List Act) → new.out.entries ≡ work.out.entries ++ more → (same : new.node.setting ≡ work.node.setting) → new.out.records ≡ work.out.records → new.out.force ≡ work.out.force
      → KnowsOn work.node.manager new.node.manager → Every IsPlain more → IsLawful before (entries_so_far stamp new) → Held new
  held_after work new h more grows same records force knows plain lawful =
      let at : RanOn (here work).0 (book_at stamp before work) (book_after (book_at stamp before work) (came work more)) h.state =
      run_plain stamp (here work).0 more (book_at stamp before work) h.state (inv_at work (lawful_before work new more grows same lawful)) h.named h.there plain (lawful_since work new more grows same lawful) in
      amid_on (here work).0 (here new).0 (ap (λ s. s.node.0) same) (book_after (book_at stamp before work) (came work more)) (book_at stamp before new) (book_is work new more grows same)
      work.out.records new.out.records records work.out.force new.out.force force new.node.manager
      (record {
        since = later_then before (book_at stamp before work) (book_after (book_at stamp before work) (came work more)) h.since at.later;
        state = at.next;
        there = at.there;
        named = at.named;
        all = at.logged (recovery (disk ++ (waiting ++ work.out.records))) h.all;
        knows = knows_on (book_at stamp before work) (book_after (book_at stamp before work) (came work more)) work.node.manager new.node.manager (recovery (disk ++ (waiting ++ work.out.records))) at.later knows h.knows;
        on_disk = λ unforced. at.logged (recovery disk) (h.on_disk unforced);
        alike = h.alike;
      })

  pub by_quiet : (work new : Work) → Quiet work new → Keeps work new
  by_quiet work new q = record { more = q.more; entries = q.entries; setting = q.setting; keeps = λ lawful h. held_after work new h q.more q.entries q.setting q.records q.force q.knows q.plain lawful }
