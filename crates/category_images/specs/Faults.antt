-- Why a category isn't made, as each call tells it.
use Rattle.category_images.specs.declared.making.Stop.{Stop}
use Rattle.category_images.specs.declared.making.Stop.TheVariants as stop
use Rattle.category_images.specs.declared.fault.ImageFault.{ImageFault}
use Rattle.category_images.specs.declared.fault.ImageFault.TheVariants as image
use Rattle.category_images.specs.declared.fault.ProductFault.{ProductFault}
use Rattle.category_images.specs.declared.fault.ProductFault.TheVariants as product

abbrev pub image_fault : Stop → ImageFault
image_fault (stop.Overflow place) = image.Overflow place
image_fault stop.Memory = image.Memory

abbrev pub product_fault : Stop → ProductFault
product_fault (stop.Overflow place) = product.Overflow place
product_fault stop.Memory = product.Memory
