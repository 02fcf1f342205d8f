-- The face of one node is shown otherwise, where the machine asks no more of it.
use Rattle.qs_world_refine.proofs.Words.{◌≡◌, ℕ, ◌==◌, Bool, true, false, List, refl, ◌∙◌, sym, if◌then◌else◌, eqb-true, Tid, Recovery, Committed, Face, ShowsFace, Said, place, Sight, ShowsSight}
use Rattle.qs_world_agree.specs.World.{World}

pub refaced : (tid : Tid) (x : Sight) (w : World) (n : ℕ) (f g : Face) (said : ℕ → ℕ → ℕ → ℕ → List Said) (found : ℕ → Recovery) → (ShowsFace f (place n (x.inc n)) w → ShowsFace g (place n (x.inc n)) w)
    → ShowsSight tid (record x { face = λ k. if k == n then f else x.face k; said = said; found = found }) w → ShowsSight tid (record x { face = λ k. if k == n then g else x.face k; said = said; found = found }) w
refaced tid x w n f g said found turn shown = record {
  stage = record { small = shown.stage.small; numbered = shown.stage.numbered; home = shown.stage.home; nodes = shown.stage.nodes; classes = shown.stage.classes; present = shown.stage.present; up = shown.stage.up; peers = shown.stage.peers };
  faces = λ k k_in k_up. by k (k == n) refl (shown.faces k k_in k_up);
  links = shown.links;
  unmet = shown.unmet;
  logs = shown.logs;
}
  where
    at : (k : ℕ) → k ≡ n → ShowsFace f (place k (x.inc k)) w → ShowsFace g (place k (x.inc k)) w
    at k is i = rw is (turn (rw (sym is) i))

    by : (k : ℕ) (b : Bool) → (k == n) ≡ b → ShowsFace (if b then f else x.face k) (place k (x.inc k)) w → ShowsFace (if b then g else x.face k) (place k (x.inc k)) w
    by k true is i = at k (eqb-true k n is) i
    by k false is i = i

-- whom a node that knows commit is to tell
pub retold : (f : Face) (tell : ℕ → Bool) (q : ℕ) (w : World) → f.outcome ≡ Committed → ShowsFace f q w → ShowsFace (record f { tell = tell }) q w
retold f tell q w committed i = record {
  up = i.up;
  outcome = i.outcome;
  engaged = i.engaged;
  superior = i.superior;
  last = i.last;
  last_new = i.last_new;
  sent = i.sent;
  told_in = i.told_in;
  tell = λ is. absurd (cc (is, committed));
  running = λ is. absurd (cc (is, committed));
}

-- all but that it is committed
pub past : (f g : Face) (q : ℕ) (w : World) → f.outcome ≡ Committed → f.on ≡ false → g.outcome ≡ Committed → g.on ≡ false → ((m : ℕ) → g.told m ≡ false) → ShowsFace f q w → ShowsFace g q w
past f g q w committed off still none nobody i = record {
  up = i.up;
  outcome = i.outcome ∙ (committed ∙ sym still);
  engaged = i.engaged ∙ (off ∙ sym none);
  superior = λ on. absurd (cc (on, none));
  last = λ on. absurd (cc (on, none));
  last_new = i.last_new;
  sent = λ running. absurd (running still);
  told_in = λ m has. absurd (let off = nobody m in cc (has, off));
  tell = λ is. absurd (cc (is, still));
  running = λ is. absurd (cc (is, still));
}
