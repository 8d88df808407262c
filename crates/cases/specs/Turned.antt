-- An order of two labels, 0 and 1, and one party, which can be turned: then the other label is public. Assumes nothing.
use Rattle.std.specs.Prelude.{ℕ, Bool, if◌then◌else◌, ◌&&◌, ◌||◌, ◌==◌, nat_lt}
use Rattle.labels.specs.Labels.{Labels}

-- 1 where the order is turned, else 0
abbrev pub public_of : Bool → ℕ
public_of turned = if turned then 1 else 0

-- the other label
abbrev pub secret_of : Bool → ℕ
secret_of turned = if turned then 0 else 1

-- What is public flows to both labels, and each label to itself. The join of two public labels is public, else secret;
-- so it is secret where a label is unknown. The public label alone is open to the party, which is party 0.
abbrev pub turned_labels : Bool → Labels
turned_labels turned = record {
  known = λ l. nat_lt l 2;
  parties = 1;
  public = public_of turned;
  secret = secret_of turned;
  flows = λ m n. (nat_lt m 2 && nat_lt n 2) && (m == public_of turned || m == n);
  join = λ m n. if m == public_of turned && n == public_of turned then public_of turned else secret_of turned;
  opens = λ l p. l == public_of turned && nat_lt p 1;
}
