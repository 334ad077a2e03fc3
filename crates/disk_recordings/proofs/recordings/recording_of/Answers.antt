use Rattle.std.proofs.Common.{◌≡◌, inl, inr, subst, sym}
use Rattle.commodore_gcr.specs.declared.drive.CommodoreDrive.{CommodoreDrive}
use Rattle.commodore_gcr.specs.declared.drive.CommodoreDrive.TheVariants.{C1541 as Drive1541, C8050 as Drive8050}
use Rattle.sector_images.specs.declared.format.Format.{Format}
use Rattle.sector_images.specs.declared.format.Format.TheVariants.{C1541, C1541Forty, C1571, C8050, C8250, Mac400, Mac800, Numbered}
use Rattle.disk_recordings.specs.Agreement.{Agrees}
use Rattle.disk_recordings.specs.Recordings.{DiskRecording, commodore_by, recording_of}
use Rattle.disk_recordings.specs.declared.disk_id.DiskId.{DiskId}
use Rattle.disk_recordings.proofs.Agree.{agrees}
use Rattle.disk_recordings.proofs.recordings.recording_of.Goals as goal

-- what a recording of a drive has, has that of a format of this drive
of_drive : (format same : Format) (id : DiskId) (drive : CommodoreDrive) (result : DiskRecording) → format ≡ same → result ≡ commodore_by drive id
    → Agrees same (commodore_by drive id) → Agrees format result
of_drive format same id drive result is made agrees =
    subst (λ (f : Format). Agrees f result) (sym is) (subst (λ (r : DiskRecording). Agrees same r) (sym made) agrees)

pub returns-in-C1541-clause-agrees : goal.returns-in-C1541-clause-agrees
returns-in-C1541-clause-agrees c =
    let id = c.args.id in
    elim c.in-C1541.is [
      | inl is ↦ of_drive c.args.format C1541 id Drive1541 c.commodore.result is c.commodore.ensures (agrees C1541 id)
      | inr others ↦ elim others [
        | inl is ↦ of_drive c.args.format C1541Forty id Drive1541 c.commodore.result is c.commodore.ensures (agrees C1541Forty id)
        | inr is ↦ of_drive c.args.format C1571 id Drive1541 c.commodore.result is c.commodore.ensures (agrees C1571 id)
      ]
    ]

pub returns-in-C8050-clause-agrees : goal.returns-in-C8050-clause-agrees
returns-in-C8050-clause-agrees c =
    let id = c.args.id in
    elim c.in-C8050.is [
      | inl is ↦ of_drive c.args.format C8050 id Drive8050 c.commodore-in-C8050.result is c.commodore-in-C8050.ensures (agrees C8050 id)
      | inr is ↦ of_drive c.args.format C8250 id Drive8050 c.commodore-in-C8050.result is c.commodore-in-C8050.ensures (agrees C8250 id)
    ]

pub returns-in-Mac400-clause-agrees : goal.returns-in-Mac400-clause-agrees
returns-in-Mac400-clause-agrees c =
    subst (λ (f : Format). Agrees f (recording_of Mac400 c.args.id)) (sym c.in-Mac400.is) (agrees Mac400 c.args.id)

pub returns-in-Mac800-clause-agrees : goal.returns-in-Mac800-clause-agrees
returns-in-Mac800-clause-agrees c =
    subst (λ (f : Format). Agrees f (recording_of Mac800 c.args.id)) (sym c.in-Mac800.is) (agrees Mac800 c.args.id)

pub returns-in-Numbered-clause-agrees : goal.returns-in-Numbered-clause-agrees
returns-in-Numbered-clause-agrees c =
    subst (λ (f : Format). Agrees f c.numbered.result) (sym c.in-Numbered.is)
    (subst (λ (r : DiskRecording). Agrees (Numbered c.in-Numbered.disk) r) (sym c.numbered.ensures) (agrees (Numbered c.in-Numbered.disk) c.args.id))
