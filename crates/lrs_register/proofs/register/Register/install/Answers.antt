use Rattle.std.proofs.Common.{rules, sym, ◌≡◌, length}
use Rattle.std.specs.BTreeMap.{is_at}
use Rattle.lrs_register.proofs.Firsts.{position-push}
use Rattle.lrs_register.proofs.register.Register.install.Goals as goal

pub invariant_of-self : goal.invariant_of-self
invariant_of-self g c =
    let long : c.len.result ≡ length c.self.inside.held.items = search rules in
    rw c.push_reserved.ensures.items (record {
      found = λ q.
          rw (c.fill.ensures.filled q, c.self.invariant.found q, c.key.ensures, long)
          (sym (position-push (λ x. is_at (g.K.Ord.cmp (g.T.Keyed.key x)) q) c.self.inside.held.items c.args.item));
    })
