-- What is told, and what may happen then.
use Rattle.std.proofs.Common.{◌≡◌, ◌≢◌, ◌⊎◌, ◌∙◌, ℕ, ◌==◌, Bool, inl, inr, true, false, List, [], ◌∷◌, refl, sym, subst, arith, if◌then◌else◌}
use Rattle.std.proofs.lemmas.Bool.Decides.{nat_tests}
use Rattle.qs_world_agree.specs.World.{Outcome, Open, Committed, Aborted, World, with_at}
use Rattle.qs_world_agree.specs.Guards.{drawn, names}
use Rattle.qs_world_agree.specs.Origins.{Origin, Begun, Found, first}
use Rattle.qs_world_agree.specs.Step.{Event, Learn, Acknowledge, Learn_abort}
use Rattle.qs_world_agree.specs.Laws.{Run, IsReached, IsAnswered}
use Rattle.qs_world_agree.specs.Carry.{Leads}
use Rattle.qs_world_agree.proofs.Whole.{Inv}
use Rattle.qs_world_agree.proofs.Inv.{inv_step}
use Rattle.qs_world_agree.proofs.Reopened.{inv_first}
use Rattle.qs_world_agree.proofs.Lawful.{inv_reached, settled_at, answered_at, agreed_at}
use Rattle.qs_world_agree_ends.specs.Telling.{May, CommitMayBeTold, ToldMayAnswer, LearntIsAnswered, AbortMayBeTold, ToldMayLearn, ToTellStays, DrawnAreToTell, DrawnAreNamed}
use Rattle.qs_world_agree_ends.proofs.Telling.{Telling, Tells}
use Rattle.qs_world_agree_ends.proofs.TellingTable.{telling_step}
use Rattle.qs_world_agree_ends.proofs.TellsTable.{tells_step}

-- ---- over runs

telling_run : (es : List Event) (w v : World) (q n : ℕ) → Inv w → Telling w q n → Run w es v → Telling v q n
telling_run [] w v q n i h r = subst (λ (x : World). Telling x q n) (sym r) h
telling_run (e ∷ es) w v q n i h r = telling_run es r.0 v q n (inv_step e w r.0 i r.1) (telling_step e w r.0 q n i.keeps h r.1) r.2

telling_first : (o : Origin) (q n : ℕ) → Telling (first o) q n
telling_first (Begun o) q n = grind (arith, nat_tests)
telling_first (Found o) q n = grind (arith, nat_tests)

telling_reached : (w : World) (q n : ℕ) → IsReached w → Telling w q n
telling_reached w q n r = telling_run r.events (first r.origin) w q n (inv_first r.origin r.begins) (telling_first r.origin q n) r.run

is_aborted : (o : Outcome) → (o ≡ Aborted) ⊎ (o ≢ Aborted)
is_aborted Open = inr (λ e. cc)
is_aborted Committed = inr (λ e. cc)
is_aborted Aborted = inl refl

-- whom a place names are those whom it has drawn in, but for the home's node
names_on : (w v : World) (q n : ℕ) → Tells w v q n → names w q n ≡ true → names v q n ≡ true
names_on w v q n t is = rw (t.node, t.home) (by (n == w.node w.home) (drawn w q n) (drawn v q n) t.drew is)
  where
    by : (b x y : Bool) → (x ≡ true → y ≡ true) → (if b then false else x) ≡ true → (if b then false else y) ≡ true
    by true x y f is = is
    by false x y f is = f is

tells_run : (es : List Event) (w v : World) (q n : ℕ) → Inv w → Telling w q n → Run w es v → Tells w v q n
tells_run [] w v q n i h r = subst (λ (x : World). Tells w x q n) (sym r) (record { node = refl; home = refl; drew = λ is. is; to_tell = λ is. is; named = λ is. is; decides = λ at other is drew. absurd (other is); learns = λ away other is drew. absurd (other is) })
tells_run (e ∷ es) w v q n i h r =
    let one : Tells w r.0 q n = tells_step e w r.0 q n h r.1 in
    let rest : Tells r.0 v q n = tells_run es r.0 v q n (inv_step e w r.0 i r.1) (telling_step e w r.0 q n i.keeps h r.1) r.2 in
    record {
      node = rest.node ∙ one.node;
      home = rest.home ∙ one.home;
      drew = λ is. rest.drew (one.drew is);
      to_tell = λ is. rest.to_tell (one.to_tell is);
      named = λ is. rest.named (one.named is);
      decides = λ at other is drew. elim (is_aborted (r.0.outcome q)) [
        | inl known ↦ rest.to_tell (one.decides at other known drew)
        | inr unknown ↦ rest.decides (at ∙ sym one.home) unknown is (one.drew drew)
      ];
      learns = λ away other is drew. elim (is_aborted (r.0.outcome q)) [
        | inl known ↦ rest.named (one.learns away other known drew)
        | inr unknown ↦ rest.learns (rw (one.node, one.home) away) unknown is (names_on w r.0 q n one drew)
      ];
    }

tells_on : (w v : World) (q n : ℕ) → IsReached w → Leads w v → Tells w v q n
tells_on w v q n r l = tells_run l.events w v q n (inv_reached w r) (telling_reached w q n r) l.run

-- ---- a commit

pub commit_may_be_told : CommitMayBeTold
commit_may_be_told w h n r stands up same =
    let i : Inv w = inv_reached w r in
    let logged : w.commit_logged ≡ true = i.outcomes.stands stands in
    let all : IsAnswered w = answered_at w i (i.outcomes.logged logged) in
    (record w { tell_commit = with_at w.tell_commit n true }, (up, same, all.known h logged up same, refl))

pub told_may_answer : ToldMayAnswer
told_may_answer w q r told = by (w.outcome q) refl
  where
    i : Inv w
    i = inv_reached w r

    committed : w.cell ≡ Committed
    committed = i.outcomes.tells (w.node q) told.0

    undecided : w.outcome q ≡ Open → (w.involved q ≡ true) ⊎ (w.involved q ≡ false) → May (Learn q) w ⊎ May (Acknowledge q) w
    undecided is (inl part) = inl (record w { outcome = with_at w.outcome q Committed; prepared = with_at w.prepared (w.node q) (λ s. false); ack_put = with_at w.ack_put q true; learnt_commit = with_at w.learnt_commit (w.node q) true }, (told, part, is, refl))
    undecided is (inr none) = inr (record w { ack_put = with_at w.ack_put q true }, (told, inr (none, (settled_at w i committed).passive q), refl))

    either : (b : Bool) → (b ≡ true) ⊎ (b ≡ false)
    either true = inl refl
    either false = inr refl

    by : (o : Outcome) → w.outcome q ≡ o → May (Learn q) w ⊎ May (Acknowledge q) w
    by Open is = undecided is (either (w.involved q))
    by Committed is = inr (record w { ack_put = with_at w.ack_put q true }, (told, inl is, refl))
    by Aborted is = let aborted : w.cell ≡ Aborted = (agreed_at w i).knows_abort q is in absurd (cc (aborted, committed))

pub learnt_is_answered : LearntIsAnswered
learnt_is_answered w q r is away = (telling_reached w q 0 r).answered is away

-- ---- an abort

pub abort_may_be_told : AbortMayBeTold
abort_may_be_told w h n r up to =
    let its = (telling_reached w h n r).to_tell to in
    (record w { tell_abort = with_at w.tell_abort n true }, (up, its.1, its.0, to, refl))

pub told_may_learn : ToldMayLearn
told_may_learn w q r told = by (w.outcome q) refl
  where
    i : Inv w
    i = inv_reached w r

    aborted : w.cell ≡ Aborted
    aborted = (agreed_at w i).told_abort (w.node q) told.0

    by : (o : Outcome) → w.outcome q ≡ o → (w.outcome q ≡ Aborted) ⊎ May (Learn_abort q) w
    by Open is = inr (record w { outcome = with_at w.outcome q Aborted; named = with_at w.named q (names w q); learnt_abort = with_at w.learnt_abort (w.node q) true }, (told, is, refl))
    by Committed is = let committed : w.cell ≡ Committed = i.outcomes.knows q is in absurd (cc (aborted, committed))
    by Aborted is = inl is

pub to_tell_stays : ToTellStays
to_tell_stays w v h n r l to = (tells_on w v h n r l).to_tell to

pub drawn_are_to_tell : DrawnAreToTell
drawn_are_to_tell w v n r l other is drew = (tells_on w v w.home n r l).decides refl other is drew

pub drawn_are_named : DrawnAreNamed
drawn_are_named w v q n r l away other is drew = (tells_on w v q n r l).learns away other is drew
