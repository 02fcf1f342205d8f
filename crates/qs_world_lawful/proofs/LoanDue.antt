-- A client that served a request to take a loan in this step is due one.
use Rattle.qs_world_lawful.proofs.Words.{◌≡◌, ℕ, ◌+◌, ◌==◌, Bool, true, false, refl, sym, ap, subst, ◌∙◌, arith, nat_lt, nat_tests, ◌&&◌, if◌then◌else◌, Class, ClientNo, NodeNo, class_of, TransactionValue, served_in, serving_part, is_loan_due, Part, RequestNo, eqb-self}
use Rattle.qs_base.specs.declared.identifiers.Class.TheVariants as classes
use Rattle.qs_book_machine.specs.Transaction.{part_of, borrower}
use Rattle.qs_world_lawful.proofs.Served.{part_served}

-- a client that was asked to take a loan in this step is due one
client_class : (k : ℕ) → class_of (k + 32) ≡ classes.Activity
client_class k = rw (two k, three k, four k, five k, above k) refl
  where
    two : (n : ℕ) → (n + 32 == 2) ≡ false
    two n = grind (arith, nat_tests)

    three : (n : ℕ) → (n + 32 == 3) ≡ false
    three n = grind (arith, nat_tests)

    four : (n : ℕ) → (n + 32 == 4) ≡ false
    four n = grind (arith, nat_tests)

    five : (n : ℕ) → (n + 32 == 5) ≡ false
    five n = grind (arith, nat_tests)

    above : (n : ℕ) → nat_lt 31 (n + 32) ≡ true
    above n = grind (arith, nat_tests)

lent_due : (c : Class) (stamp : ℕ) (done : Bool) (part : Part) → c ≡ classes.Activity → (((serving_part c stamp done part).step == stamp) && nat_lt 0 (serving_part c stamp done part).unmade) ≡ true
lent_due c stamp done part is = subst (λ (d : Class). (((serving_part d stamp done part).step == stamp) && nat_lt 0 (serving_part d stamp done part).unmade) ≡ true) (sym is) (by (part.step == stamp))
  where
    some : (n : ℕ) → nat_lt 0 (n + 1) ≡ true
    some n = grind (arith, nat_tests)

    by : (b : Bool) → ((stamp == stamp) && nat_lt 0 (if b then part.unmade + 1 else 1)) ≡ true
    by true = rw (eqb-self stamp, some part.unmade) refl
    by false = rw (eqb-self stamp) refl

pub serve_due : (at : RequestNo) (client : ClientNo) (here : NodeNo) (inc stamp : ℕ) (done : Bool) (tx : TransactionValue) → is_loan_due (served_in at (borrower client here) inc stamp done tx) (borrower client here) inc stamp ≡ true
serve_due at client here inc stamp done tx =
    ap (λ (p : Part). (p.step == stamp) && nat_lt 0 p.unmade) (part_served at tx (borrower client here) inc stamp done)
    ∙ lent_due (class_of (client.0 + 32)) stamp done (part_of tx (borrower client here) inc) (client_class client.0)
