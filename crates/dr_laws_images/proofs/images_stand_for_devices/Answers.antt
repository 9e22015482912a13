use Rattle.dr_laws_images.proofs.Stands.{world-back, devices-back, listing-back}
use Rattle.dr_laws_images.proofs.Imaged.{last-gives-back}
use Rattle.dr_laws_images.proofs.images_stand_for_devices.Goals as goal

pub returns : goal.returns
returns c = record {
  world = λ w vs s sound all. world-back w sound vs all s;
  fits = λ w on fuse device vs s sound fits holds all. devices-back w sound vs all device (λ v h. (fits.volumes v h).fields) holds s;
  last = last-gives-back;
  devices = λ w device s whole sources. listing-back w.control device whole sources s;
}
