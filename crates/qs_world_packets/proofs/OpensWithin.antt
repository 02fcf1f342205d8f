-- Settings of numbers that are no nodes of the run are read by nobody: with incarnations there, a run may begin as before, and the reference machine begins as before.
use Rattle.std.proofs.Common.{◌≡◌, ℕ, ◌+◌, ◌==◌, ◌≤◌, ◌<◌, Bool, true, false, List, [], ◌∷◌, zero, suc, nat_lt, refl, ap, ◌∙◌, arith, if◌then◌else◌}
use Rattle.std.specs.Prelude.{◌&&◌, ◌||◌, not}
use Rattle.std.specs.List.{list_all}
use Rattle.std.proofs.lemmas.Bool.Decides.{nat_tests}
use Rattle.qs_base.specs.declared.identifiers.Tid.{Tid}
use Rattle.qs_book_machine.specs.Opening.{opening}
use Rattle.qs_book_machine.specs.declared.opened.Opened.{Opened}
use Rattle.qs_record.specs.declared.record.Record.{Record}
use Rattle.qs_record.specs.declared.record.Record.TheVariants.{Prepare, Commit, Aborted, End}
use Rattle.qs_node_step.specs.declared.setting.Setting.{Setting}
use Rattle.qs_node_step.specs.Opening.{recovered_of}
use Rattle.qs_world.specs.Histories.{opened_from, opened_with}
use Rattle.qs_world.specs.Openings.{IsOpening, each_below, is_earlier, is_record, is_setting}
use Rattle.qs_world.specs.World.{Opening}
use Rattle.qs_world.proofs.Below.{each_is}
use Rattle.qs_world_packets.specs.PacketLaws.{EachOpensAlike}
use Rattle.qs_world_packets.specs.PacketWorld.{setting_in, within}
use Rattle.qs_world_packets.proofs.StepsGo.{both}

-- ---- tests that say the same

each_same : (n : ℕ) (test other : ℕ → Bool) → ((k : ℕ) → k < n → other k ≡ test k) → each_below n test ≡ true → each_below n other ≡ true
each_same zero test other same is = refl
each_same (suc n) test other same is = and (test n) (other n) (each_below n test) (each_below n other) (same n (grind (arith))) (each_same n test other (λ k low. same k (grind (arith, low)))) is
  where
    and : (a b x y : Bool) → b ≡ a → (x ≡ true → y ≡ true) → (a && x) ≡ true → (b && y) ≡ true
    and true b x y e f is = rw (e, f is) refl
    and false b x y e f is = absurd (cc is)

all_same : (test other : Record → Bool) → ((r : Record) → other r ≡ test r) → (rs : List Record) → list_all other rs ≡ list_all test rs
all_same test other same [] = refl
all_same test other same (r ∷ rs) = rw (same r, all_same test other same rs) refl

-- ---- a node of the run has its setting

setting_same : (o : Opening) (n : ℕ) → nat_lt n o.size ≡ true → setting_in o n ≡ o.settings n
setting_same o n low = ap (λ (b : Bool). if b then o.settings n else record (o.settings n) { inc = 1 }) low

earlier_same : (o : Opening) (tid : Tid) → is_earlier (within o) tid ≡ is_earlier o tid
earlier_same o tid = by (nat_lt tid.home.0 o.size)
  where
    by : (b : Bool) → (not b || nat_lt tid.inc (if b then o.settings tid.home.0 else record (o.settings tid.home.0) { inc = 1 }).inc) ≡ (not b || nat_lt tid.inc (o.settings tid.home.0).inc)
    by true = refl
    by false = refl

record_same : (o : Opening) (n : ℕ) (r : Record) → is_record (within o) n r ≡ is_record o n r
record_same o n (Prepare tid server covers changes) = rw (earlier_same o tid) refl
record_same o n (Commit tid told) = rw (earlier_same o tid) refl
record_same o n (Aborted tid) = earlier_same o tid
record_same o n (End tid) = earlier_same o tid

opens_within : (o : Opening) → IsOpening o → IsOpening (within o)
opens_within o opens = record {
  size = opens.size;
  settings = each_same o.size (λ n. is_setting o.size n (o.settings n)) (λ n. is_setting o.size n (setting_in o n)) (λ n low. ap (λ (s : Setting). is_setting o.size n s) (setting_same o n (grind (arith, nat_tests, low)))) opens.settings;
  scripts = opens.scripts;
  labels = opens.labels;
  logs = each_same o.size (λ n. list_all (is_record o n) (o.logs n)) (λ n. list_all (is_record (within o) n) (o.logs n)) (λ n low. all_same (is_record o n) (is_record (within o) n) (record_same o n) (o.logs n)) opens.logs;
  votes = opens.votes;
  unended = opens.unended;
  whole = opens.whole;
}

opened_same : (o : Opening) (more n : ℕ) → n + more ≤ o.size → opened_from (within o) n more ≡ opened_from o n more
opened_same o zero n low = refl
opened_same o (suc more) n low =
    ap (λ (s : Setting). opened_with s (recovered_of (o.logs n)) ∷ opened_from (within o) (n + 1) more) (setting_same o n (grind (arith, nat_tests, low)))
    ∙ ap (λ (others : List Opened). opened_with (o.settings n) (recovered_of (o.logs n)) ∷ others) (opened_same o more (n + 1) (grind (arith, low)))

pub opens_alike : EachOpensAlike
opens_alike o opens = record { opens = opens_within o opens; book = ap opening (opened_same o o.size 0 (grind (arith))) }

-- ---- so each number has an incarnation

pub some_inc : (o : Opening) → IsOpening o → (n : ℕ) → 1 ≤ (setting_in o n).inc
some_inc o opens n = by (nat_lt n o.size) refl
  where
    of_setting : is_setting o.size n (o.settings n) ≡ true → 1 ≤ (o.settings n).inc
    of_setting is = positive (o.settings n).inc (both (nat_lt 0 (o.settings n).inc) _ (both (((o.settings n).node.0 == n) && ((o.settings n).nodes == o.size)) _ is).1).0
      where
        positive : (k : ℕ) → nat_lt 0 k ≡ true → 1 ≤ k
        positive k some = grind (arith, nat_tests, some)

    by : (b : Bool) → nat_lt n o.size ≡ b → 1 ≤ (if b then o.settings n else record (o.settings n) { inc = 1 }).inc
    by true low = of_setting (each_is o.size (λ n. is_setting o.size n (o.settings n)) opens.settings n (grind (arith, nat_tests, low)))
    by false none = grind (arith)
