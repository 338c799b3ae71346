use Rattle.std.proofs.Common.{◌≡◌, ◌≤◌, ◌<◌, ◌⊎◌, ℕ, arith}
use Rattle.terms.specs.Limits.{InRange}
use Rattle.session.specs.Accounts.{opened, new, bad_size, few_slots, open_anew, range, slots}
use Rattle.session.specs.Keeping.{memory_of}
use Rattle.session.proofs.Keeping.{opening}
use Rattle.session.proofs.Session.open.Goals as goal

out_of_range : (n : ℕ) → (n ≡ 0) ⊎ ((n ≡ 0 → ⊥) × (64 < n)) → InRange n → ⊥
out_of_range n e r = omega (arith, e, r.0, r.1)

pub returns-then-n-eq0-clause-told : goal.returns-then-n-eq0-clause-told
returns-then-n-eq0-clause-told g c a h = (a, bad_size (out_of_range c.args.n c.then-n-eq0.either), h)

pub returns-then-n-eq0-clause-opens : goal.returns-then-n-eq0-clause-opens
returns-then-n-eq0-clause-opens g c = range (out_of_range c.args.n c.then-n-eq0.either)

in_range : (n : ℕ) → (n ≡ 0 → ⊥) → n ≤ 64 → InRange n
in_range n d le = (omega (arith, d), le)

pub returns-then-self-n-clause-told : goal.returns-then-self-n-clause-told
returns-then-self-n-clause-told g c a h = (a, few_slots (in_range c.args.n c.if-n-eq0.false c.if-n-gt-MOST_VARIABLES.false) c.if-self-n.true, h)

pub returns-then-self-n-clause-opens : goal.returns-then-self-n-clause-opens
returns-then-self-n-clause-opens g c = slots (in_range c.args.n c.if-n-eq0.false c.if-n-gt-MOST_VARIABLES.false) c.if-self-n.true

pub returns-clause-told : goal.returns-clause-told
returns-clause-told g c a h =
    let s = c.args.self.now in
    let fits = in_range c.args.n c.if-n-eq0.false c.if-n-gt-MOST_VARIABLES.false in (
      opened (new (memory_of s) c.args.n),
      open_anew fits c.if-self-n.false,
      opening g.K.Kind.ops g.met.K.Kind.lawful s c.args.n _ c.restart.new.row c.restart.auto.row c.min-usable.ensures fits c.if-self-n.false c.restart.ensures
          c.new.result c.new.ensures c.empty-self.result c.empty-self.ensures,
    )

pub returns-clause-opens : goal.returns-clause-opens
returns-clause-opens g c =
    let fits = in_range c.args.n c.if-n-eq0.false c.if-n-gt-MOST_VARIABLES.false in (
      fits,
      c.if-self-n.false,
      opening g.K.Kind.ops g.met.K.Kind.lawful c.args.self.now c.args.n _ c.restart.new.row c.restart.auto.row c.min-usable.ensures fits c.if-self-n.false
          c.restart.ensures c.new.result c.new.ensures c.empty-self.result c.empty-self.ensures,
    )
