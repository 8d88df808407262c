-- An order given by its join is lawful where the join is that of a bounded semilattice. Assumes nothing.
use Rattle.std.specs.Prelude.{◌≡◌, ℕ, ◌<◌, Bool, true, false, cond, ◌&&◌, ◌==◌, nat_lt}
use Rattle.std.proofs.Common.{sym, ap, ◌∙◌}
use Rattle.std.proofs.lemmas.Bool.{and_parts, and_from, and_right, eqb-true, eq-eqb, lt-ltb, cond-true}
use Rattle.labels.specs.Labels.{Labels, Lawful}
use Rattle.labels.specs.Orders.{by_join}

pub record Semilattice (known : ℕ → Bool) (parties public secret : ℕ) (join : ℕ → ℕ → ℕ) (opens : ℕ → ℕ → Bool) : Type 0 where
  pub one_byte : (m : ℕ) → known m ≡ true → m < 256
  pub public_known : known public ≡ true
  pub secret_known : known secret ≡ true
  pub join_known : (m n : ℕ) → known m ≡ true → known n ≡ true → known (join m n) ≡ true
  pub idempotent : (m : ℕ) → known m ≡ true → join m m ≡ m
  pub commutative : (m n : ℕ) → known m ≡ true → known n ≡ true → join m n ≡ join n m
  pub associative : (l m n : ℕ) → known l ≡ true → known m ≡ true → known n ≡ true → join (join l m) n ≡ join l (join m n)
  pub public_neutral : (m : ℕ) → known m ≡ true → join public m ≡ m
  pub secret_absorbing : (m : ℕ) → known m ≡ true → join m secret ≡ secret
  pub public_open : (p : ℕ) → p < parties → opens public p ≡ true
  pub secret_shut : (p : ℕ) → p < parties → opens secret p ≡ false
  -- what is open above is open below
  pub open_join : (m n p : ℕ) → known m ≡ true → known n ≡ true → p < parties → opens (join m n) p ≡ true → opens m p ≡ true

module _ {known : ℕ → Bool} {parties public secret : ℕ} {join : ℕ → ℕ → ℕ} {opens : ℕ → ℕ → Bool}
    (s : Semilattice known parties public secret join opens) where
  flows : (m n : ℕ) → known m ≡ true → known n ≡ true → join m n ≡ n → ((known m && known n) && join m n == n) ≡ true
  flows m n km kn e = and_from _ _ (and_from _ _ km kn) (eq-eqb _ _ e)

  joined : (m n : ℕ) → ((known m && known n) && join m n == n) ≡ true → join m n ≡ n
  joined m n f = eqb-true _ _ (and_parts (known m && known n) _ f).1

  raw : (m n : ℕ) → known m ≡ true → known n ≡ true → cond (known m && known n) (join m n) secret ≡ join m n
  raw m n km kn = cond-true _ _ _ (and_from _ _ km kn)

  lawful_known : (m n : ℕ) → known m ≡ true → known n ≡ true → known (cond (known m && known n) (join m n) secret) ≡ true
  lawful_known m n km kn = ap known (raw m n km kn) ∙ s.join_known m n km kn

  left : (m n : ℕ) → known m ≡ true → known n ≡ true → join m (join m n) ≡ join m n
  left m n km kn = sym (s.associative m m n km km kn) ∙ ap (λ (x : ℕ). join x n) (s.idempotent m km)

  right : (m n : ℕ) → known m ≡ true → known n ≡ true → join n (join m n) ≡ join m n
  right m n km kn = ap (join n) (s.commutative m n km kn) ∙ left n m kn km ∙ s.commutative n m kn km

  abbrev order : Labels
  order = by_join known parties public secret join opens

  pub lawful : Lawful order
  lawful = record {
    one_byte = s.one_byte;
    public_known = s.public_known;
    secret_known = s.secret_known;
    join_known = lawful_known;
    reflexive = λ m km. flows m m km km (s.idempotent m km);
    transitive = λ l m n kl km kn f g.
        flows l n kl kn
        (ap (join l) (sym (joined m n g)) ∙ sym (s.associative l m n kl km kn) ∙ ap (λ (x : ℕ). join x n) (joined l m f) ∙ joined m n g);
    antisymmetric = λ m n km kn f g. sym (joined n m g) ∙ s.commutative n m kn km ∙ joined m n f;
    public_least = λ m km. flows public m s.public_known km (s.public_neutral m km);
    secret_greatest = λ m km. flows m secret km s.secret_known (s.secret_absorbing m km);
    join_left = λ m n km kn. rw (raw m n km kn) (flows m (join m n) km (s.join_known m n km kn) (left m n km kn));
    join_right = λ m n km kn. rw (raw m n km kn) (flows n (join m n) kn (s.join_known m n km kn) (right m n km kn));
    join_least = λ m n u km kn ku f g.
        rw (raw m n km kn)
        (flows (join m n) u (s.join_known m n km kn) ku
        (s.associative m n u km kn ku ∙ ap (join m) (joined n u g) ∙ joined m u f));
    public_open = λ p h. and_from _ _ (and_from _ _ s.public_known (lt-ltb _ _ h)) (s.public_open p h);
    secret_shut = λ p h. and_right _ _ (s.secret_shut p h);
    open_below = λ m n p km kn h f o.
        and_from _ _ (and_from _ _ km (lt-ltb _ _ h))
        (s.open_join m n p km kn h (ap (λ (x : ℕ). opens x p) (joined m n f) ∙ (and_parts (known n && nat_lt p parties) _ o).1));
  }
