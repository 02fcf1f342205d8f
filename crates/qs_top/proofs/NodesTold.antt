-- What all nodes tell, as lists by the numbers of the nodes: what their logs held, and that it is of a run of the world.
use Rattle.std.proofs.Common.{◌≡◌, ◌∙◌, ap, refl, subst, sym, ℕ, zero, suc, ◌+◌, ◌<◌, ◌≤◌, Bool, true, false, List, [], ◌∷◌, ◌++◌, length, map, Some, None, Result, Ok, get_or, nat_lt, slice_get, arith}
use Rattle.std.proofs.lemmas.Bool.Decides.{nat_tests}
use Rattle.std.proofs.lemmas.List.{ext_get_or, length-append}
use Rattle.std.specs.List.Sorted.{IsStableBy}
use Rattle.qs_book_journal.specs.Merge.{IsMerged}
use Rattle.qs_book_journal.specs.declared.entry.Entry.{Entry}
use Rattle.qs_book_machine.specs.declared.opened.Opened.{Opened}
use Rattle.qs_book_script.specs.declared.script.Script.{Script}
use Rattle.qs_disk.specs.Disk.{DiskState}
use Rattle.qs_node_step.specs.declared.trace.Step.{Step}
use Rattle.qs_top.specs.Disks.{IsHeldBy}
use Rattle.qs_top.specs.Ran.{journal_in, opened_in, trace_in}
use Rattle.qs_top.specs.Run.{AreHeldBy}
use Rattle.qs_top.proofs.Held.{held_at}
use Rattle.qs_world.specs.Moves.{node_no}
use Rattle.qs_world_merge.specs.MergedByKey.{IsMergedBy, flat_of, key_lt}
use Rattle.qs_world_merge.specs.Observed.{Observed, journals_of}
use Rattle.qs_world_merge.specs.StepMoves.{step_key}
use Rattle.qs_world_nodes.proofs.Places.{found, low_of, same_some}
use Rattle.qs_world_nodes.specs.Nodes.{journal_at, journal_by, trace_at, trace_by}
use Rattle.qs_world_rounds.specs.declared.faults.RoundFault.{RoundFault}
use Rattle.qs_world_rounds.specs.Rounds.{Cast}
use Rattle.qs_world_rounds.specs.declared.rounds.Ending.{Ending}
use Rattle.qs_world_serial.specs.Serial.{EachBeside, HasRun, IsToldBy}
use Rattle.qs_world_serial.specs.declared.serial.SiteTold.{SiteTold}
use Rattle.qs_world_traces.specs.Links.{observed_by}

-- ---- lists

pub map_length : {A B : Type 0} (f : A → B) (xs : List A) → length (map f xs) ≡ length xs
map_length f [] = refl
map_length f (x ∷ xs) = ap suc (map_length f xs)

-- where a list that is mapped has something
pub map_has : {A B : Type 0} (f : A → B) (xs : List A) (n : ℕ) (y : B) → slice_get (map f xs) n ≡ Some y → (x : A) × ((slice_get xs n ≡ Some x) × (f x ≡ y))
map_has f [] n y is = absurd (cc is)
map_has f (x ∷ xs) zero y is = (x, (refl, same_some (f x) y is))
map_has f (x ∷ xs) (suc n) y is = map_has f xs n y is

map_at : {A B : Type 0} (f : A → B) (xs : List A) (n : ℕ) (d : B) (x : A) → slice_get xs n ≡ Some x → get_or (map f xs) n d ≡ f x
map_at f [] n d x is = absurd (cc is)
map_at f (y ∷ xs) zero d x is = ap f (same_some y x is)
map_at f (y ∷ xs) (suc n) d x is = map_at f xs n d x is

map_past : {A B : Type 0} (f : A → B) (xs : List A) (n : ℕ) (d : B) → length xs ≤ n → get_or (map f xs) n d ≡ d
map_past f [] n d past = refl
map_past f (x ∷ xs) zero d past = absurd (omega (arith, past))
map_past f (x ∷ xs) (suc n) d past = map_past f xs n d (omega (arith, past))

none_past : {A : Type 0} (xs : List A) (n : ℕ) → length xs ≤ n → slice_get xs n ≡ None
none_past [] n past = refl
none_past (x ∷ xs) zero past = absurd (omega (arith, past))
none_past (x ∷ xs) (suc n) past = none_past xs n (omega (arith, past))

at_last : {A : Type 0} (xs : List A) (y d : A) → get_or (xs ++ y ∷ []) (length xs) d ≡ y
at_last [] y d = refl
at_last (x ∷ xs) y d = at_last xs y d

before_last : {A : Type 0} (xs : List A) (y d : A) (n : ℕ) → n < length xs → get_or (xs ++ y ∷ []) n d ≡ get_or xs n d
before_last [] y d n low = absurd (omega (arith, low))
before_last (x ∷ xs) y d zero low = refl
before_last (x ∷ xs) y d (suc n) low = before_last xs y d n (omega (arith, low))

one_more : {A : Type 0} (xs : List A) (y : A) (n : ℕ) → length xs ≡ n → length (xs ++ y ∷ []) ≡ suc n
one_more xs y n is = length-append xs (y ∷ []) ∙ omega (arith, is)

journals_length : (observed : ℕ → Observed) (n : ℕ) → length (journals_of n observed) ≡ n
journals_length observed zero = refl
journals_length observed (suc n) = one_more (journals_of n observed) (observed n).journal n (journals_length observed n)

journals_get : (observed : ℕ → Observed) (n i : ℕ) → i < n → get_or (journals_of n observed) i [] ≡ (observed i).journal
journals_get observed zero i low = absurd (omega (arith, low))
journals_get observed (suc n) i low = by (journals_get observed n i) (nat_lt i n) refl
  where
    below : nat_lt i n ≡ true → i < n
    below is = grind (arith, nat_tests, is)

    last : nat_lt i n ≡ false → n ≡ i
    last is = grind (arith, nat_tests, is, low)

    by : (i < n → get_or (journals_of n observed) i [] ≡ (observed i).journal) → (b : Bool) → nat_lt i n ≡ b → get_or (journals_of n observed ++ (observed n).journal ∷ []) i [] ≡ (observed i).journal
    by before true is = before_last (journals_of n observed) (observed n).journal [] i (omega (arith, below is, journals_length observed n)) ∙ before (below is)
    by before false is = subst (λ (k : ℕ). get_or (journals_of n observed ++ (observed n).journal ∷ []) k [] ≡ (observed k).journal) (last is)
        (subst (λ (k : ℕ). get_or (journals_of n observed ++ (observed n).journal ∷ []) k [] ≡ (observed n).journal) (journals_length observed n) (at_last (journals_of n observed) (observed n).journal []))

flat_same : {X : Type 0} (a b : ℕ → List X) → ((n : ℕ) → a n ≡ b n) → (n : ℕ) → flat_of n a ≡ flat_of n b
flat_same a b same zero = refl
flat_same a b same (suc n) = ap (λ (l : List _). l ++ a n) (flat_same a b same n) ∙ ap (λ (l : List _). flat_of n b ++ l) (same n)

merged_same : (a b : ℕ → List Step) → ((n : ℕ) → a n ≡ b n) → (n : ℕ) (merged : List Step) → IsMergedBy step_key n a merged → IsMergedBy step_key n b merged
merged_same a b same n merged m = record { in_order = m.in_order; as_they_stood = subst (λ (l : List Step). IsStableBy (key_lt step_key) l merged) (flat_same a b same n) m.as_they_stood }

-- ---- what is told, by the sites

module _ {D : Type 0} (sites : List (Cast D)) (tells : List SiteTold) (are : EachBeside (λ n. IsToldBy) sites tells) where
  journal_is : (n : ℕ) → n < length tells → get_or (map journal_in tells) n [] ≡ journal_at sites n
  journal_is n low = by (found tells n low) (found sites n (omega (arith, low, are.count)))
    where
      by : (t : SiteTold) × (slice_get tells n ≡ Some t) → (site : Cast D) × (slice_get sites n ≡ Some site) → get_or (map journal_in tells) n [] ≡ journal_at sites n
      by (t, told) (site, there) = map_at journal_in tells n [] t told ∙ ((are.each n site t there told).journal ∙ sym (ap journal_by there))

  trace_is : (n : ℕ) → get_or (map trace_in tells) n [] ≡ trace_at sites n
  trace_is n = by (nat_lt n (length tells)) refl
    where
      inside : (t : SiteTold) × (slice_get tells n ≡ Some t) → (site : Cast D) × (slice_get sites n ≡ Some site) → get_or (map trace_in tells) n [] ≡ trace_at sites n
      inside (t, told) (site, there) = map_at trace_in tells n [] t told ∙ ((are.each n site t there told).trace ∙ sym (ap trace_by there))

      low : nat_lt n (length tells) ≡ true → n < length tells
      low is = grind (arith, nat_tests, is)

      past : nat_lt n (length tells) ≡ false → length tells ≤ n
      past is = grind (arith, nat_tests, is)

      by : (b : Bool) → nat_lt n (length tells) ≡ b → get_or (map trace_in tells) n [] ≡ trace_at sites n
      by true is = inside (found tells n (low is)) (found sites n (omega (arith, low is, are.count)))
      by false is = map_past trace_in tells n [] (past is) ∙ sym (ap trace_by (none_past sites n (omega (arith, past is, are.count))))

  -- so are the lists of both
  journals_are : (size : ℕ) → length sites ≡ size → map journal_in tells ≡ journals_of size (λ k. observed_by (journal_at sites k) (trace_at sites k))
  journals_are size count = ext_get_or [] (map journal_in tells) (journals_of size observed) same_length each
    where
      observed : ℕ → Observed
      observed k = observed_by (journal_at sites k) (trace_at sites k)

      long : length (map journal_in tells) ≡ size
      long = map_length journal_in tells ∙ (are.count ∙ count)

      same_length : length (map journal_in tells) ≡ length (journals_of size observed)
      same_length = long ∙ sym (journals_length observed size)

      each : (n : ℕ) → n < length (map journal_in tells) → get_or (map journal_in tells) n [] ≡ get_or (journals_of size observed) n []
      each n low = journal_is n (omega (arith, low, map_length journal_in tells)) ∙ sym (journals_get observed size n (omega (arith, low, long)))

  pub merged_journals : (size : ℕ) → length sites ≡ size → (journal : List Entry) → IsMerged (map journal_in tells) journal → IsMerged (journals_of size (λ k. observed_by (journal_at sites k) (trace_at sites k))) journal
  merged_journals size count journal is = subst (λ (l : List (List Entry)). IsMerged l journal) (journals_are size count) is

  pub merged_traces : (size : ℕ) → length sites ≡ size → (trace : List Step) → IsMergedBy step_key (length (map trace_in tells)) (λ n. get_or (map trace_in tells) n []) trace → IsMergedBy step_key size (trace_at sites) trace
  merged_traces size count trace is = merged_same (λ n. get_or (map trace_in tells) n []) (trace_at sites) trace_is size trace
      (subst (λ (k : ℕ). IsMergedBy step_key k (λ n. get_or (map trace_in tells) n []) trace) (map_length trace_in tells ∙ (are.count ∙ count)) is)

-- ---- what the logs held

module _ {D : Type 0} (told : Type 0) (state : D → DiskState) (own size : D → ℕ) (script : Script) (seed : ℕ) (ending : Result Ending RoundFault) (tells : List SiteTold) (disks afters : List D) (ran : HasRun told state own size script seed ending (Ok tells) disks afters) where
  pub sites_count : length ran.last.sites ≡ length disks
  sites_count = ran.stays.count ∙ ran.begins.count

  pub held_all : told → AreHeldBy state script (length disks) disks (map opened_in tells)
  held_all t = record { count = map_length opened_in tells ∙ (ran.tells_is.count ∙ sites_count); each = each }
    where
      each : (n : ℕ) (disk : D) (opened : Opened) → slice_get disks n ≡ Some disk → slice_get (map opened_in tells) n ≡ Some opened → IsHeldBy script (length disks) (node_no n) (state disk).content opened
      each n disk opened of_disk is = by (map_has opened_in tells n opened is)
        where
          low : n < length disks
          low = low_of disks n disk of_disk

          at : (t : SiteTold) (first last : Cast D) → slice_get tells n ≡ Some t → opened_in t ≡ opened → slice_get ran.first.sites n ≡ Some first → slice_get ran.last.sites n ≡ Some last
              → IsHeldBy script (length disks) (node_no n) (state disk).content opened
          at one first last tells_so same first_is last_is = subst (IsHeldBy script (length disks) (node_no n) (state disk).content)
              (sym (ran.stays.each n first last first_is last_is).start.opened ∙ (sym (ran.tells_is.each n last one last_is tells_so).opened ∙ same))
              (held_at told state own ran.alloc script (length disks) (node_no n) disk first (ran.begins.each n disk first of_disk first_is) t)

          by : (t : SiteTold) × ((slice_get tells n ≡ Some t) × (opened_in t ≡ opened)) → IsHeldBy script (length disks) (node_no n) (state disk).content opened
          by (one, (tells_so, same)) = sites (found ran.first.sites n (omega (arith, low, ran.begins.count))) (found ran.last.sites n (omega (arith, low, sites_count)))
            where
              sites : (first : Cast D) × (slice_get ran.first.sites n ≡ Some first) → (last : Cast D) × (slice_get ran.last.sites n ≡ Some last) → IsHeldBy script (length disks) (node_no n) (state disk).content opened
              sites (first, first_is) (last, last_is) = at one first last tells_so same first_is last_is
