use Rattle.category_images.specs.declared.place.Symbol.TheVariants.{F, R, W, V, H, S, Twist, Loop}
use Rattle.category_images.proofs.PutLemmas.{after_mark, after_put, after_set, f_is_put, h_is_put, loop_is_put, r_is_put, s_is_put, twist_is_put, v_is_put, w_is_put}
use Rattle.category_images.proofs.making.Making.put.Goals as goal

pub returns-in-F : goal.returns-in-F
returns-in-F c =
    rw c.in-F.is
    (after_set F c.args.index.now c.args.value c.args.self.now c.set_f.new.self _ _ (f_is_put c.args.index.now c.args.value c.args.self.now c.set_f.new.self) _ c.set_f.result c.settled.result
    c.settled.ensures (rw c.six.ensures at c.set_f.ensures.told) (rw c.six.ensures at c.set_f.ensures.sets))

pub returns-in-R : goal.returns-in-R
returns-in-R c =
    rw c.in-R.is
    (after_set R c.args.index.now c.args.value c.args.self.now c.set_r.new.self _ _ (r_is_put c.args.index.now c.args.value c.args.self.now c.set_r.new.self) _ c.set_r.result c.settled-in-R.result
    c.settled-in-R.ensures (rw c.three.ensures at c.set_r.ensures.told) (rw c.three.ensures at c.set_r.ensures.sets))

pub returns-in-W : goal.returns-in-W
returns-in-W c =
    rw c.in-W.is
    (after_set W c.args.index.now c.args.value c.args.self.now c.set_w.new.self _ _ (w_is_put c.args.index.now c.args.value c.args.self.now c.set_w.new.self) _ c.set_w.result c.settled-in-W.result
    c.settled-in-W.ensures (rw c.three-in-W.ensures at c.set_w.ensures.told) (rw c.three-in-W.ensures at c.set_w.ensures.sets))

pub returns-in-V : goal.returns-in-V
returns-in-V c =
    rw c.in-V.is
    (after_set V c.args.index.now c.args.value c.args.self.now c.set_v.new.self _ _ (v_is_put c.args.index.now c.args.value c.args.self.now c.set_v.new.self) _ c.set_v.result c.settled-in-V.result
    c.settled-in-V.ensures (rw c.three-in-V.ensures at c.set_v.ensures.told) (rw c.three-in-V.ensures at c.set_v.ensures.sets))

pub returns-in-H : goal.returns-in-H
returns-in-H c =
    rw c.in-H.is
    (after_put H c.args.index.now c.args.value c.args.self.now _ c.put_h.result _ _ (h_is_put c.args.index.now c.args.value c.args.self.now c.put_h.new.self)
    (rw c.turned.ensures at c.put_h.ensures.ok) (rw c.turned.ensures at c.put_h.ensures.puts))

pub returns-in-S : goal.returns-in-S
returns-in-S c =
    rw c.in-S.is
    (after_put S c.args.index.now c.args.value c.args.self.now _ c.put_s.result _ _ (s_is_put c.args.index.now c.args.value c.args.self.now c.put_s.new.self)
    (rw c.three-in-S.ensures at c.put_s.ensures.ok) (rw c.three-in-S.ensures at c.put_s.ensures.puts))

pub returns-in-Twist : goal.returns-in-Twist
returns-in-Twist c =
    rw c.in-Twist.is
    (after_mark Twist c.args.index.now c.args.value c.args.self.now c.set_twist.new.self _ _ (twist_is_put c.args.index.now c.args.value c.args.self.now c.set_twist.new.self) c.set_twist.result c.settled_mark.result
    c.settled_mark.ensures c.set_twist.ensures.told c.set_twist.ensures.sets)

pub returns-in-Loop : goal.returns-in-Loop
returns-in-Loop c =
    rw c.in-Loop.is
    (after_mark Loop c.args.index.now c.args.value c.args.self.now c.set_loop.new.self _ _ (loop_is_put c.args.index.now c.args.value c.args.self.now c.set_loop.new.self) c.set_loop.result c.settled_mark-in-Loop.result
    c.settled_mark-in-Loop.ensures c.set_loop.ensures.told c.set_loop.ensures.sets)
