use Rattle.std.proofs.Common.{take, subst, sym}
use Rattle.dr_model.specs.Histories.{after_event}
use Rattle.dr_lost.specs.Held.{Becomes}
use Rattle.dr_lost.proofs.holdings.Holdings.hear.Goals as goal

pub returns-in-Volume : goal.returns-in-Volume
returns-in-Volume c = subst (λ e. Becomes c.args.self.now c.define.new.self c.define.result (λ h. after_event h e)) (sym c.in-Volume.is) (c.define.ensures c.in-Volume.tracks)

pub returns-in-Issue : goal.returns-in-Issue
returns-in-Issue c = subst (λ e. Becomes c.args.self.now c.issue.new.self c.issue.result (λ h. after_event h e)) (sym c.in-Issue.is) (c.issue.ensures c.in-Issue.offset (take c.in-Issue.len c.in-Issue.bytes))

pub returns-in-Ack : goal.returns-in-Ack
returns-in-Ack c = subst (λ e. Becomes c.args.self.now c.acknowledge.new.self c.acknowledge.result (λ h. after_event h e)) (sym c.in-Ack.is) c.acknowledge.ensures

pub returns-in-Mirrored : goal.returns-in-Mirrored
returns-in-Mirrored c = subst (λ e. Becomes c.args.self.now c.mirror.new.self c.mirror.result (λ h. after_event h e)) (sym c.in-Mirrored.is) c.mirror.ensures

pub returns-in-Sent : goal.returns-in-Sent
returns-in-Sent c = subst (λ e. Becomes c.args.self.now c.send.new.self c.send.result (λ h. after_event h e)) (sym c.in-Sent.is) c.send.ensures

pub returns-in-Flashed : goal.returns-in-Flashed
returns-in-Flashed c = subst (λ e. Becomes c.args.self.now c.flash.new.self c.flash.result (λ h. after_event h e)) (sym c.in-Flashed.is) c.flash.ensures

pub returns-in-Committed : goal.returns-in-Committed
returns-in-Committed c = subst (λ e. Becomes c.args.self.now c.commit.new.self c.commit.result (λ h. after_event h e)) (sym c.in-Committed.is) c.commit.ensures

pub returns-in-Reverted : goal.returns-in-Reverted
returns-in-Reverted c = subst (λ e. Becomes c.args.self.now c.revert.new.self c.revert.result (λ h. after_event h e)) (sym c.in-Reverted.is) c.revert.ensures

pub returns-in-Set : goal.returns-in-Set
returns-in-Set c = subst (λ e. Becomes c.args.self.now c.set.new.self c.set.result (λ h. after_event h e)) (sym c.in-Set.is) c.set.ensures

pub returns-in-Back : goal.returns-in-Back
returns-in-Back c = subst (λ e. Becomes c.args.self.now c.send-in-Back.new.self c.send-in-Back.result (λ h. after_event h e)) (sym c.in-Back.is) c.send-in-Back.ensures

pub returns-in-Blanked : goal.returns-in-Blanked
returns-in-Blanked c = subst (λ e. Becomes c.args.self.now c.blank.new.self c.blank.result (λ h. after_event h e)) (sym c.in-Blanked.is) c.blank.ensures
