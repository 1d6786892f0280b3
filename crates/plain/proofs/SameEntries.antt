-- `==` decides whether entries are the same.
use Rattle.std.proofs.Common.{◌≡◌, true, ap, subst, rules}
use Rattle.std.specs.Bool.{Decides}
use Rattle.std.proofs.lemmas.Bool.Decides.{Decides-eqb, Decides-and}
use Rattle.mont_base.specs.declared.operation.Op.{Op}
use Rattle.mont_base.specs.declared.operation.Reply.{Reply}
use Rattle.mont_base.specs.declared.operation.Entry.{Entry}
use Rattle.mont_base.specs.contracts.operation.OpPartialEq.TheImpl as of_op
use Rattle.mont_base.specs.contracts.operation.ReplyPartialEq.TheImpl as of_reply
use Rattle.mont_base.specs.contracts.operation.EntryPartialEq.TheImpl as of_entry

one_op : (a b : Op) → of_op.eq-value.it a b ≡ true → a ≡ b
one_op a b e = search rules

op_itself : (a : Op) → of_op.eq-value.it a a ≡ true
op_itself a = search rules

one_reply : (a b : Reply) → of_reply.eq-value.it a b ≡ true → a ≡ b
one_reply a b e = search rules

reply_itself : (a : Reply) → of_reply.eq-value.it a a ≡ true
reply_itself a = search rules

same_op : (a b : Op) → Decides (of_op.eq-value.it a b) (a ≡ b)
same_op a b = (one_op a b, λ e. subst (λ (o : Op). of_op.eq-value.it a o ≡ true) e (op_itself a))

same_reply : (a b : Reply) → Decides (of_reply.eq-value.it a b) (a ≡ b)
same_reply a b = (one_reply a b, λ e. subst (λ (r : Reply). of_reply.eq-value.it a r ≡ true) e (reply_itself a))

pub same_entry : (a b : Entry) → Decides (of_entry.eq-value.it a b) (a ≡ b)
same_entry a b =
    let answered = Decides-and _ _ (same_reply a.reply b.reply) (Decides-eqb a.epoch b.epoch) in
    let asked = Decides-and _ _ (same_op a.op b.op) answered in
    let called = Decides-and _ _ (Decides-eqb a.call b.call) asked in
    let all = Decides-and _ _ (Decides-eqb a.caller b.caller) called in (
      λ e.
          let h = all.0 e in
          λ i. record { caller = h.0 i; call = h.1.0 i; op = h.1.1.0 i; reply = h.1.1.1.0 i; epoch = h.1.1.1.1 i },
      λ e. all.1 (
        ap (λ (x : Entry). x.caller) e,
        (
          ap (λ (x : Entry). x.call) e,
          (
            ap (λ (x : Entry). x.op) e,
            (ap (λ (x : Entry). x.reply) e, ap (λ (x : Entry). x.epoch) e),
          ),
        ),
      ),
    )
