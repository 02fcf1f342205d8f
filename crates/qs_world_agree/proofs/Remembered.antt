-- A node whose inquiry the home took while the transaction ran is told the outcome.
use Rattle.std.proofs.Common.{◌≡◌, ◌⊎◌, ◌∙◌, ℕ, Bool, inl, inr, true, false, List, [], ◌∷◌, refl, sym, subst, ap, arith}
use Rattle.std.proofs.lemmas.Bool.Decides.{nat_tests}
use Rattle.qs_world_agree.specs.World.{Open, Committed, World}
use Rattle.qs_world_agree.specs.Origins.{Origin, IsOrigin, first}
use Rattle.qs_world_agree.specs.Step.{Event, Commit_unlogged, Answer_running, Step}
use Rattle.qs_world_agree.specs.Laws.{Run}
use Rattle.qs_world_agree.specs.Events.{Happens, TookTold, IsRemembered}
use Rattle.qs_world_agree.proofs.Facts.{fresh, home_open}
use Rattle.qs_world_agree.proofs.LastsTable.{lasts_step}
use Rattle.qs_world_agree.proofs.Noted.{Noted}
use Rattle.qs_world_agree.proofs.NotedTable.{noted_step, ended_step, acknowledged_step}
use Rattle.qs_world_agree.proofs.Whole.{Inv}
use Rattle.qs_world_agree.proofs.Inv.{inv_step}
use Rattle.qs_world_agree.proofs.Reopened.{inv_first}
use Rattle.qs_world_agree.proofs.Heeded.{lasts_run, found}

noted_run : (es : List Event) (w v : World) (n : ℕ) → Inv w → Run w es v → Noted w n → Noted v n
noted_run [] w v n i r h = subst (λ (x : World). Noted x n) (sym r) h
noted_run (e ∷ es) w v n i r h = noted_run es r.0 v n (inv_step e w r.0 i r.1) r.2 (noted_step e w r.0 n i.keeps h r.1)

-- the home answers so only while nothing is decided
runs : (q : ℕ) (a b : World) → Inv a → Step (Answer_running q) a b → a.cell ≡ Open
runs q a b i s = home_open a i.keeps s.0.0 s.1

-- from then on the node is noted
notes : (q : ℕ) (a b : World) → Inv a → Step (Answer_running q) a b → Noted b (b.node q)
notes q a b i s = begin q a b (runs q a b i s) s
  where
    begin : (q : ℕ) (a b : World) → a.cell ≡ Open → Step (Answer_running q) a b → Noted b (b.node q)
    begin q a b is s = grind (arith, nat_tests, is, s)

noted : (q : ℕ) (es : List Event) (w v : World) → Inv w → Run w es v → Happens es (Answer_running q) → Noted v (v.node q)
noted q es w v = found (λ x. Noted x (x.node q)) (λ a b i fs r h. subst (λ (f : ℕ → ℕ). Noted b (f q)) (sym (lasts_run fs a b 0 i r).node) (noted_run fs a b (a.node q) i r h)) (Answer_running q) (notes q) es w v

-- a commit that leaves no record comes neither after that answer nor before it
none_after : (n : ℕ) (es : List Event) (w v : World) → Inv w → Run w es v → Noted w n → Happens es Commit_unlogged → ⊥
none_after n [] w v i r h has = absurd has
none_after n (e ∷ es) w v i r h (inl is) = let s : Step Commit_unlogged w r.0 = subst (λ (x : Event). Step x w r.0) is r.1 in let off = s.1 n in let on = h.named in cc (off, on)
none_after n (e ∷ es) w v i r h (inr more) = none_after n es r.0 v (inv_step e w r.0 i r.1) r.2 (noted_step e w r.0 n i.keeps h r.1) more

no_answer : (q : ℕ) (es : List Event) (w v : World) → Inv w → Run w es v → w.cell ≡ Committed → Happens es (Answer_running q) → ⊥
no_answer q [] w v i r is has = absurd has
no_answer q (e ∷ es) w v i r is (inl same) = let running = runs q w r.0 i (subst (λ (x : Event). Step x w r.0) same r.1) in cc (is, running)
no_answer q (e ∷ es) w v i r is (inr more) = no_answer q es r.0 v (inv_step e w r.0 i r.1) r.2 ((lasts_step e w r.0 0 i.keeps r.1).committed is) more

recorded : (q : ℕ) (es : List Event) (w v : World) → Inv w → Run w es v → Happens es (Answer_running q) → Happens es Commit_unlogged → ⊥
recorded q [] w v i r asked has = absurd has
recorded q (e ∷ es) w v i r (inl is) (inl other) = cc (is, other)
recorded q (e ∷ es) w v i r (inl is) (inr more) = none_after (r.0.node q) es r.0 v (inv_step e w r.0 i r.1) r.2 (notes q w r.0 i (subst (λ (x : Event). Step x w r.0) is r.1)) more
recorded q (e ∷ es) w v i r (inr asked) (inl is) = let s : Step Commit_unlogged w r.0 = subst (λ (x : Event). Step x w r.0) is r.1 in no_answer q es r.0 v (inv_step e w r.0 i r.1) r.2 (rw s.3 refl) asked
recorded q (e ∷ es) w v i r (inr asked) (inr more) = recorded q es r.0 v (inv_step e w r.0 i r.1) r.2 asked more

-- what a later part of the run took, the whole took
later : (e : Event) (es : List Event) (v : World) (n : ℕ) → (v.unended ≡ true) ⊎ TookTold es v n → (v.unended ≡ true) ⊎ TookTold (e ∷ es) v n
later e es v n (inl is) = inl is
later e es v n (inr took) = inr (record { at = took.at; from = took.from; of_node = took.of_node; taken = inr took.taken })

either : (b : Bool) → (b ≡ true) ⊎ (b ≡ false)
either true = inl refl
either false = inr refl

-- a Commit that names the node has no End before its Told came
stands : (es : List Event) (w v : World) (n : ℕ) → Inv w → Noted w n → (w.cell ≡ Committed → w.unended ≡ true) → w.acknowledged n ≡ false → Run w es v → v.cell ≡ Committed → (v.unended ≡ true) ⊎ TookTold es v n
stands [] w v n i h stood quiet r is = inl (rw r (stood (sym (ap (λ (x : World). x.cell) r) ∙ is)))
stands (e ∷ es) w v n i h stood quiet r is =
    elim (either (r.0.acknowledged n)) [
      | inl acks ↦ elim (acknowledged_step e w r.0 n r.1 acks) [
        | inl before ↦ absurd (cc (before, quiet))
        | inr told ↦ inr (record { at = told.at; from = told.from; of_node = ap (λ (f : ℕ → ℕ). f told.from) (lasts_run (e ∷ es) w v 0 i r).node ∙ told.of_node; taken = inl told.is })
      ]
      | inr silent ↦ later e es v n (stands es r.0 v n (inv_step e w r.0 i r.1) (noted_step e w r.0 n i.keeps h r.1) (still r.0.unended refl) silent r.2 is)
    ]
  where
    still : (b : Bool) → r.0.unended ≡ b → r.0.cell ≡ Committed → r.0.unended ≡ true
    still true on done = on
    still false off done = let acked = ended_step e w r.0 n h stood r.1 done off in absurd (cc (acked, quiet))

-- from the answer on
stands_from : (q : ℕ) (es : List Event) (w v : World) → Inv w → Run w es v → Happens es (Answer_running q) → v.cell ≡ Committed → (v.unended ≡ true) ⊎ TookTold es v (v.node q)
stands_from q [] w v i r has is = absurd has
stands_from q (e ∷ es) w v i r (inr more) is = later e es v (v.node q) (stands_from q es r.0 v (inv_step e w r.0 i r.1) r.2 more is)
stands_from q (e ∷ es) w v i r (inl same) is =
    let s : Step (Answer_running q) w r.0 = subst (λ (x : Event). Step x w r.0) same r.1 in
    let j : Inv r.0 = inv_step e w r.0 i r.1 in
    let undecided : r.0.cell ≡ Open = ap (λ (x : World). x.cell) s.2 ∙ runs q w r.0 i s in
    later e es v (v.node q) (subst (λ (f : ℕ → ℕ). (v.unended ≡ true) ⊎ TookTold es v (f q)) (sym (lasts_run es r.0 v 0 j r.2).node)
    (stands es r.0 v (r.0.node q) j (notes q w r.0 i s) (λ done. absurd (cc (done, undecided))) (fresh r.0 (r.0.node q) j.outcomes undecided) r.2 is))

pub remembered : (o : Origin) (es : List Event) (q : ℕ) (v : World) → IsOrigin o → Run (first o) es v → Happens es (Answer_running q) → IsRemembered es v (v.node q)
remembered o es q v is r has =
    let h : Noted v (v.node q) = noted q es (first o) v (inv_first o is) r has in
    record {
      named = h.named;
      listed = h.listed;
      recorded = recorded q es (first o) v (inv_first o is) r has;
      stands = stands_from q es (first o) v (inv_first o is) r has;
      abort_told = h.abort_told;
    }
